-- The first of some that gives something.
use Rattle.std.specs.Prelude.{Bool, List, [], ◌∷◌, Option, Some, None, if◌then◌else◌}
use Rattle.std.specs.Option.{option_or}

abbrev pub first_some : {A B : Type 0} → (A → Option B) → List A → Option B
first_some f [] = None
first_some f (x ∷ xs) = option_or (f x) (first_some f xs)

abbrev pub given : {A : Type 0} → Bool → A → Option A
given holds a = if holds then Some a else None
