-- The texts in which a unit defines or declares something.
use Rattle.std.specs.Prelude.{ℕ, Bool, ◌&&◌, List}
use Rattle.indexmap.specs.IndexSet.{IndexSet, contains}
use Rattle.scope_tables.specs.declared.entities.Occ.{Occ}
use Rattle.unit_index.specs.Groups.{same_file}
use Rattle.unit_index.specs.References.{introduces}

unfoldable pub has_file : {S : Type 0} → IndexSet (List ℕ) S → List ℕ → Bool
has_file set f = contains same_file set f

abbrev pub introduces_in : List ℕ → Occ → Bool
introduces_in f o = introduces o.role && same_file o.tok.file f
