-- The two ends of a stack.
use Rattle.std.specs.Prelude.{List, [], ◌∷◌, Option, Some, None}

-- what was put on it last
abbrev pub top : {A : Type 0} → List A → Option A
top [] = None
top (x ∷ xs) = Some x

abbrev pub some_or : {A : Type 0} → Option A → A → Option A
some_or (Some y) x = Some y
some_or None x = Some x

-- what was put on it first
abbrev pub bottom : {A : Type 0} → List A → Option A
bottom [] = None
bottom (x ∷ xs) = some_or (bottom xs) x
