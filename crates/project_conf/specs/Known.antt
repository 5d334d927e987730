-- What is kept of what texts mean.
use Rattle.std.specs.Prelude.{◌≡◌, ℕ, List, String, Option, Some, IfSome}
use Rattle.std.specs.HashMap.{HashMap, get_by_text}

-- what is kept at a text is what it means
abbrev pub Knows : {X Y S : Type 0} → (List ℕ → Option X) → HashMap (String Y) X S → Type 0
Knows meaning map = (text : List ℕ) → IfSome (get_by_text map text) (λ x. meaning text ≡ Some x)
