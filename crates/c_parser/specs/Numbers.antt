-- Numbers of tokens that stand one behind another from a place to another.
use Rattle.std.specs.Prelude.{◌≡◌, ℕ, ◌+◌, List, [], ◌∷◌}

abbrev pub Spans : List ℕ → ℕ → ℕ → Type 0
Spans [] a b = b ≡ a
Spans (x ∷ xs) a b = (x ≡ a) × Spans xs (a + 1) b
