-- What a rename that isn't refused leaves as it was: with the edits made, what each token is, and what it denotes in each unit. The texts with the edits made are those
-- that an editor has which reads the answer's ranges back (ReadBack, law `edits_are_read_back`).
use Rattle.std.specs.Prelude.{◌≡◌, ℕ, true, List, map, bytes_eq}
use Rattle.std.specs.List.{list_any}
use Rattle.doc_texts.specs.Texts.{Texts, text_at}
use Rattle.plain_mean.specs.Shown.{units}
use Rattle.plain_mean.specs.TokenKinds.{kinds_in}
use Rattle.project_conf.specs.declared.conf.Conf.{Conf}
use Rattle.rename_core.specs.Clashes.{renamed}
use Rattle.rename_core.specs.Classes.{IsClass}
use Rattle.rename_core.specs.declared.confirming.Edits.{Edits}
use Rattle.scope_tables.specs.declared.entities.Occ.{Occ}
use Rattle.tok_data.specs.declared.sources.TokId.{TokId}
use Rattle.c_session.specs.Classed.{class_in}
use Rattle.c_session.specs.Outcomes.{all_occs, occs_in}
use Rattle.plain_mean.specs.Ranges.{paths_in, texts_after}

-- an External name of the class is the new one then
abbrev pub as_after : Texts → Conf → TokId → List ℕ → Occ → Occ
as_after texts conf t name o = record o { anchor = renamed (class_in (all_occs texts conf) t).external name o.anchor }

pub record KeepsBindings (texts : Texts) (conf : Conf) (t : TokId) (edits : Edits) : Type 0 where
  -- the tokens to edit are those that denote what the token denotes, in all units, and with a token all that denote what that one denotes
  pub class : IsClass (all_occs texts conf) t edits.toks
  -- each text that is edited has as many tokens, of the same kinds
  pub kinds : (path : List ℕ) → list_any (bytes_eq path) (paths_in edits.toks) ≡ true →
      kinds_in (text_at (texts_after texts edits.toks edits.new_name) path) ≡ kinds_in (text_at texts path)
  -- in each unit the same tokens denote the same, in the same order and roles
  pub bindings : (unit : List ℕ) → list_any (bytes_eq unit) (units texts conf) ≡ true →
      occs_in (texts_after texts edits.toks edits.new_name) conf unit ≡ map (as_after texts conf t edits.new_name) (occs_in texts conf unit)
