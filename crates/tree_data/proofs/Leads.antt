-- Statements with nothing in front of them.
use Rattle.std.proofs.Common.{◌≡◌, refl, List, [], ◌∷◌, length, ◌==◌, arith, true}
use Rattle.tree_data.specs.declared.statements.Lead.{Lead}
use Rattle.tree_data.specs.Stated.{leads_of}
use Rattle.tree_data.specs.Statements.{Statement, Statement_of, led}

no_more : {A : Type 0} → (x : A) → (xs : List A) → (length (x ∷ xs) == 0) ≡ true → ⊥
no_more x xs h = grind (arith, h)

pub led_by_none : (ls : List Lead) → (s : Statement) → (length ls == 0) ≡ true → s ≡ led (leads_of ls) s
led_by_none [] (Statement_of more c) h = refl
led_by_none (l ∷ ls) s h = absurd (no_more l ls h)
