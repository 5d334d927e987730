-- Maps by a text, in which what was put in first stays.
use Rattle.std.specs.Prelude.{ℕ, List, Option, Some, None, if◌then◌else◌, bytes_eq}
use Rattle.std.specs.Option.{option_or}

-- what is there at a text, when a value was put in at a name
abbrev pub first_of : {X : Type 0} → Option X → List ℕ → X → List ℕ → Option X
first_of before name value text = option_or before (if bytes_eq text name then Some value else None)
