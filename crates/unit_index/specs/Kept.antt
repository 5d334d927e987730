-- What is kept of a unit beside its occurrences, so that what it says of an anchor is found and not searched for.
use Rattle.std.specs.Prelude.{◌≡◌, ℕ, Bool, List, map}
use Rattle.std.specs.List.{list_any}
use Rattle.scope_tables.specs.declared.units.UnitMeaning.{UnitMeaning}
use Rattle.unit_index.specs.Codes.{by_name}
use Rattle.unit_index.specs.Files.{introduces_in}

pub record IsKept (m : UnitMeaning) (entity_codes : List ℕ) (in_file : List ℕ → Bool) : Type 0 where
  pub entities : entity_codes ≡ map by_name m.entities
  pub files : (f : List ℕ) → in_file f ≡ list_any (introduces_in f) m.occs
