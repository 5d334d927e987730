-- What is known of a unit.
use Rattle.std.specs.Prelude.{ℕ, List}
use Rattle.scope_tables.specs.declared.units.UnitMeaning.{UnitMeaning}

pub record Known : Type 0 where
  pub path : List ℕ
  -- the paths whose texts it reads
  pub reads : List (List ℕ)
  pub meaning : UnitMeaning
