-- What is shown of a text lies within it.
use Rattle.std.specs.Prelude.{ℕ, ◌≤◌, List, [], ◌∷◌}
use Rattle.plain_mean.specs.declared.types.Shown.{Shown}

abbrev pub AreWithin : ℕ → List Shown → Type 0
AreWithin limit [] = Unit {0}
AreWithin limit (s ∷ rest) = (s.start ≤ limit) × (s.end ≤ limit) × AreWithin limit rest
