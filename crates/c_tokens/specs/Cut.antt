-- A list that is cut from the front into parts, each of a width of its own.
use Rattle.std.specs.Prelude.{ℕ, zero, suc, ◌-◌, List, [], ◌∷◌}

-- the parts of xs after the next `skip` elements: each is what `first` makes of the rest that begins there
abbrev pub cut : {A P : Type 0} → (List A → P) → (P → ℕ) → ℕ → List A → List P
cut first width skip [] = []
cut first width zero (a ∷ rest) = first (a ∷ rest) ∷ cut first width (width (first (a ∷ rest)) - 1) rest
cut first width (suc skip) (a ∷ rest) = cut first width skip rest
