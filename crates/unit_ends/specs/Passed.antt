-- What a walk over the statements of a unit has passed.
use Rattle.std.specs.Prelude.{◌≡◌, ℕ, List}
use Rattle.scope_tables.specs.declared.meanings.HeadMeaning.{HeadMeaning}
use Rattle.scope_tables.specs.declared.meanings.Stated.{Stated}
use Rattle.unit_ends.specs.Ends.{any, defines, stated_before}
use Rattle.unit_ends.specs.Kept.{has}
use Rattle.unit_ends.specs.declared.passed.Passed.{Passed}

-- it has the names that these items, and these statements of the next one, state and define
pub record HasPassed (front : List HeadMeaning) (before : List Stated) (p : Passed) : Type 0 where
  pub statements : (q : List ℕ) → has p.stated q ≡ stated_before any q front before
  pub definitions : (q : List ℕ) → has p.defined q ≡ stated_before defines q front before
