-- The order of a meaning's lists: by the numbers of tokens. What has the same token stays in the order in which it was found.
use Rattle.std.specs.Prelude.{ℕ, Bool, true, not, ◌&&◌, nat_lt, List, [], ◌∷◌, map, if◌then◌else◌}

-- in front of all that stands further on
abbrev pub put : {A : Type 0} → ℕ × A → List (ℕ × A) → List (ℕ × A)
put p [] = p ∷ []
put p (q ∷ qs) = if nat_lt p.0 q.0 then p ∷ q ∷ qs else q ∷ put p qs

abbrev pub all_put : {A : Type 0} → List (ℕ × A) → List (ℕ × A) → List (ℕ × A)
all_put done [] = done
all_put done (p ∷ ps) = all_put (put p done) ps

abbrev pub by_place : {A : Type 0} → List (ℕ × A) → List A
by_place ps = map (λ p. p.1) (all_put [] ps)

-- no number is below the one in front of it, the first not below this
abbrev pub ascends_from : {A : Type 0} → ℕ → List (ℕ × A) → Bool
ascends_from at [] = true
ascends_from at (p ∷ ps) = not (nat_lt p.0 at) && ascends_from p.0 ps
