-- What a rename comes to over the texts of a session (LSP 3.17, textDocument/rename): the first refusal that holds, or the tokens to edit. The units that are compared
-- are those of the texts before the edit, each with the configuration that it has there.
use Rattle.std.specs.Prelude.{ℕ, List, map, length, Result, Ok, Err}
use Rattle.doc_texts.specs.Texts.{Texts, text_at}
use Rattle.plain_mean.specs.Meanings.{meaning}
use Rattle.plain_mean.specs.Renewed.{renewed}
use Rattle.plain_mean.specs.Shown.{units}
use Rattle.plain_mean.specs.TokenKinds.{kinds_in}
use Rattle.project_conf.specs.declared.conf.Conf.{Conf}
use Rattle.rename_core.specs.Clashes.{confirmed}
use Rattle.rename_core.specs.Refusals.{planned}
use Rattle.rename_core.specs.Views.{View}
use Rattle.rename_core.specs.declared.class.Plan.{Plan}
use Rattle.rename_core.specs.declared.confirming.Edits.{Edits}
use Rattle.rename_core.specs.declared.error.RenameError.{RenameError}
use Rattle.rename_core.specs.declared.views.FileKinds.{FileKinds}
use Rattle.scope_tables.specs.declared.entities.Occ.{Occ}
use Rattle.tok_data.specs.declared.sources.TokId.{TokId}
use Rattle.c_session.specs.Classed.{class_in}
use Rattle.plain_mean.specs.Ranges.{paths_in, texts_after}

-- ---- units

abbrev pub occs_in : Texts → Conf → List ℕ → List Occ
occs_in texts conf unit = (meaning texts conf unit).meaning.occs

-- in order of path
abbrev pub all_occs : Texts → Conf → List (List Occ)
all_occs texts conf = map (occs_in texts conf) (units texts conf)

abbrev pub kinds_at : Texts → List ℕ → FileKinds
kinds_at texts path = record { file = path; kinds = kinds_in (text_at texts path) }

abbrev pub view : Texts → Conf → List FileKinds → List ℕ → View
view texts conf kinds unit = record { path = unit; kinds = kinds; occs = occs_in texts conf unit }

-- these units over some texts, with the kinds of the tokens of the class's texts
abbrev pub views : Texts → Conf → List TokId → List (List ℕ) → List View
views texts conf class us = map (view texts conf (map (kinds_at texts) (paths_in class))) us

-- ---- the outcome

abbrev pub plan_of : Texts → Conf → TokId → List ℕ → Result Plan RenameError
plan_of texts conf t name = planned (class_in (all_occs texts conf) t) name

abbrev pub after : Texts → Plan → Texts
after texts p = texts_after texts p.class.toks p.new_name

abbrev pub confirmed_over : Texts → Conf → Plan → Result Edits RenameError
confirmed_over texts conf p =
    confirmed p (views texts conf p.class.toks (units texts conf)) (views (after texts p) conf p.class.toks (units texts conf))

abbrev pub and_confirmed : Texts → Conf → Result Plan RenameError → Result Edits RenameError
and_confirmed texts conf (Err e) = Err e
and_confirmed texts conf (Ok p) = confirmed_over texts conf p

unfoldable pub rename : Texts → Conf → TokId → List ℕ → Result Edits RenameError
rename texts conf t name = and_confirmed texts conf (plan_of texts conf t name)

-- ---- its work

-- the units of which an answer is another one with the edits made
abbrev pub looked_over : Texts → Conf → Result Plan RenameError → ℕ
looked_over texts conf (Err e) = 0
looked_over texts conf (Ok p) = length (renewed texts conf (after texts p) conf)

unfoldable pub work_of : Texts → Conf → TokId → List ℕ → ℕ
work_of texts conf t name = looked_over texts conf (plan_of texts conf t name)
