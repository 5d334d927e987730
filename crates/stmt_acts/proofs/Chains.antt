-- Lists of steps, and a statement behind what stands in front of it.
use Rattle.std.proofs.Common.{◌≡◌, ◌==◌, refl, arith, true, false, length, List, [], ◌∷◌, ◌++◌, None, append_assoc, append-nil, ap, sym, ◌∙◌}
use Rattle.tree_data.specs.declared.statements.Lead as code
use Rattle.tree_data.specs.Stated.{leads_of}
use Rattle.tree_data.specs.Statements.{Statement, Statement_of, Lead, leads, led}
use Rattle.stmt_acts.specs.declared.acts.Within.{Within}
use Rattle.stmt_acts.specs.Acts.{Act}
use Rattle.stmt_acts.specs.Bodies.{statement, all_front, all_inside, all_back, front, inside, back, core, items_in}

regrouped : (f a c b d : List Act) → (f ++ a) ++ (c ++ (b ++ d)) ≡ f ++ ((a ++ (c ++ b)) ++ d)
regrouped f a c b d = simp append_assoc

pub led_first : (w : Within) → (l : Lead) → (ls : List Lead) → (s : Statement) →
    statement w (led (l ∷ ls) s) ≡ front w l ++ (statement (inside w l) (led ls s) ++ back l)
led_first w l ls (Statement_of more c) =
    regrouped
    (front w l)
    (all_front (inside w l) (leads ls more))
    (core (all_inside (inside w l) (leads ls more)) c)
    (all_back (leads ls more))
    (back l)

-- ---- where none stands in front, and where one does

no_more : {A : Type 0} → (x : A) → (xs : List A) → (length (x ∷ xs) == 0) ≡ true → ⊥
no_more x xs h = grind (arith, h)

none_there : (A : Type 0) → (length {A = A} [] == 0) ≡ false → ⊥
none_there A h = grind (arith, h)

pub led_none : (ls : List code.Lead) → (s : Statement) → (length ls == 0) ≡ true → led (leads_of ls) s ≡ s
led_none [] (Statement_of more c) h = refl
led_none (l ∷ ls) s h = absurd (no_more l ls h)

pub led_some : (ls : List code.Lead) → (s : Statement) → (length ls == 0) ≡ false → items_in (led (leads_of ls) s) ≡ None
led_some [] s h = absurd (none_there code.Lead h)
led_some (l ∷ ls) (Statement_of more c) h = refl

-- ---- steps that were gathered, in front of those that are left

pub turned : (done one next : List Act) → {more here mid all : List Act} →
    more ≡ done ++ one → one ++ next ≡ mid → here ≡ mid → done ++ here ≡ all → more ++ next ≡ all
turned done one next {more} {here} {mid} {all} put taken left h =
    ap (λ z. z ++ next) put ∙ append_assoc done one next ∙ ap (λ z. done ++ z) (taken ∙ sym left) ∙ h

pub ended : (done : List Act) → {here all : List Act} → here ≡ [] → done ++ here ≡ all → done ≡ all
ended done none h = sym (append-nil done) ∙ ap (λ z. done ++ z) (sym none) ∙ h
