-- What the code keeps of a rename: its params as they are lent, and what units mean with the edits made.
use Rattle.std.specs.Prelude.{ℕ, List, [], ◌∷◌, Option, None, Some, if◌then◌else◌}
use Rattle.doc_texts.specs.Texts.{Texts}
use Rattle.plain_mean.specs.Renewed.{is_renewed}
use Rattle.project_conf.specs.declared.conf.Conf.{Conf}
use Rattle.c_session.specs.Outcomes.{occs_in}
use Rattle.rename_core.specs.Views.{View}
use Rattle.rename_core.specs.declared.views.FileKinds.{FileKinds}
use Rattle.scope_tables.specs.declared.entities.Occ.{Occ}
use Rattle.unit_index.specs.Known.{Known}
use Rattle.c_session.specs.Renames as spec
use Rattle.c_session.specs.declared.renames.Renaming.{Renaming}
use Rattle.c_session.specs.declared.renames.Wanted.{Wanted}

abbrev pub seen_wanted : Wanted → spec.Wanted
seen_wanted x = record { uri = x.uri.now; pos = x.pos; new_name = x.new_name.now }

abbrev pub seen_renaming : Renaming → spec.Renaming
seen_renaming x = record { path = x.path; pos = x.pos; new_name = x.new_name.now }

-- a unit's occurrences over other texts, where an answer that it asked for is another one; none where it means what it meant
abbrev pub anew : Texts → Conf → Texts → List ℕ → Option (List Occ)
anew texts conf now unit = if is_renewed texts conf now conf unit then Some (occs_in now conf unit) else None

abbrev pub anew_of : Texts → Conf → Texts → Known → Option (List Occ)
anew_of texts conf now u = anew texts conf now u.path

-- what was worked out, else what is kept
abbrev pub occs_by : Known → Option (List Occ) → List Occ
occs_by u None = u.meaning.occs
occs_by u (Some occs) = occs

abbrev pub view_by : List FileKinds → Known → Option (List Occ) → View
view_by kinds u o = record { path = u.path; kinds = kinds; occs = occs_by u o }

-- one behind the other
abbrev pub views_by : List FileKinds → List Known → List (Option (List Occ)) → List View
views_by kinds [] os = []
views_by kinds (u ∷ us) [] = []
views_by kinds (u ∷ us) (o ∷ os) = view_by kinds u o ∷ views_by kinds us os
