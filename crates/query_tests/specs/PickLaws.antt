-- The choice keeps the laws of queries.
use Rattle.std.proofs.Common.{◌≡◌, ℕ, ◌<◌, ◌==◌, true, false, if◌then◌else◌, List, [], ◌∷◌, ◌++◌, cond, Result, Ok, Err, IfOk, Option, Some, None, nat_eq, refl, sym, ap, subst, ◌∙◌, inl, inr, arith}
use Rattle.std.specs.Map.{lookup}
use Rattle.query_core.specs.Lists.{Has}
use Rattle.query_core.specs.Queries.{AreLawful, GoesOn, answers}
use Rattle.query_core.specs.declared.rules.Step.{Step}
use Rattle.query_core.specs.declared.rules.Step.TheVariants.{Ask, Done}
use Rattle.query_tests.specs.contracts.pick.PickKeyPartialEq.TheImpl.{eq-value}
use Rattle.query_tests.specs.declared.pick.PickKey.{PickKey}
use Rattle.query_tests.specs.declared.pick.PickKey.TheVariants.{In0, In1, In2, Pick}
use Rattle.query_tests.specs.Pick.{pick, same_key, chosen, is_input_key, step_at}

-- the test of keys that the program has is this one
pub same_key_is : (a b : PickKey) → eq-value.it a b ≡ same_key a b
same_key_is In0 In0 = refl
same_key_is In0 In1 = refl
same_key_is In0 In2 = refl
same_key_is In0 Pick = refl
same_key_is In1 In0 = refl
same_key_is In1 In1 = refl
same_key_is In1 In2 = refl
same_key_is In1 Pick = refl
same_key_is In2 In0 = refl
same_key_is In2 In1 = refl
same_key_is In2 In2 = refl
same_key_is In2 Pick = refl
same_key_is Pick In0 = refl
same_key_is Pick In1 = refl
same_key_is Pick In2 = refl
same_key_is Pick Pick = refl

pub same_number_is : (a b : ℕ) → nat_eq a b ≡ true → a ≡ b
same_number_is a b e = grind (arith, e)

same_means : (a b : PickKey) → same_key a b ≡ true → a ≡ b
same_means In0 In0 e = refl
same_means In0 In1 e = let bad : ⊥ = cc in absurd bad
same_means In0 In2 e = let bad : ⊥ = cc in absurd bad
same_means In0 Pick e = let bad : ⊥ = cc in absurd bad
same_means In1 In0 e = let bad : ⊥ = cc in absurd bad
same_means In1 In1 e = refl
same_means In1 In2 e = let bad : ⊥ = cc in absurd bad
same_means In1 Pick e = let bad : ⊥ = cc in absurd bad
same_means In2 In0 e = let bad : ⊥ = cc in absurd bad
same_means In2 In1 e = let bad : ⊥ = cc in absurd bad
same_means In2 In2 e = refl
same_means In2 Pick e = let bad : ⊥ = cc in absurd bad
same_means Pick In0 e = let bad : ⊥ = cc in absurd bad
same_means Pick In1 e = let bad : ⊥ = cc in absurd bad
same_means Pick In2 e = let bad : ⊥ = cc in absurd bad
same_means Pick Pick e = refl

same_itself : (a : PickKey) → same_key a a ≡ true
same_itself In0 = refl
same_itself In1 = refl
same_itself In2 = refl
same_itself Pick = refl

input_value : (given : PickKey → ℕ) (k : PickKey) → is_input_key k ≡ true → pick.val given k ≡ given k
input_value given In0 e = refl
input_value given In1 e = refl
input_value given In2 e = refl
input_value given Pick e = let bad : ⊥ = cc in absurd bad

input_reads : (given : PickKey → ℕ) (k : PickKey) → is_input_key k ≡ true → pick.asks given k ≡ []
input_reads given In0 e = refl
input_reads given In1 e = refl
input_reads given In2 e = refl
input_reads given Pick e = let bad : ⊥ = cc in absurd bad

-- the second key isn't answered by the first
not_first : (n v : ℕ) → lookup (same_key (chosen n)) ((In0, v) ∷ []) ≡ None
not_first n v = elim (n == 0) as (λ b. lookup (same_key (if b then In1 else In2)) ((In0, v) ∷ []) ≡ None) [ true ↦ refl | false ↦ refl ]

second : (n v w : ℕ) → lookup (same_key (chosen n)) ((In0, v) ∷ (chosen n, w) ∷ []) ≡ Some w
second n v w = elim (n == 0) as (λ b. lookup (same_key (if b then In1 else In2)) ((In0, v) ∷ (if b then In1 else In2, w) ∷ []) ≡ Some w) [ true ↦ refl | false ↦ refl ]

chosen_value : (given : PickKey → ℕ) (n : ℕ) → pick.val given (chosen n) ≡ given (chosen n)
chosen_value given n = elim (n == 0) as (λ b. pick.val given (if b then In1 else In2) ≡ given (if b then In1 else In2)) [ true ↦ refl | false ↦ refl ]

chosen_rank : (given : PickKey → ℕ) (n : ℕ) → pick.rank given (chosen n) ≡ 0
chosen_rank given n = elim (n == 0) as (λ b. pick.rank given (if b then In1 else In2) ≡ 0) [ true ↦ refl | false ↦ refl ]

after_one : (given : PickKey → ℕ) → pick.step Pick (answers (pick.val given) (In0 ∷ [])) ≡ Ask (chosen (given In0) ∷ [])
after_one given =
    ap (λ o. elim o [ None ↦ Ask (chosen (given In0) ∷ []) | Some v ↦ Done v ]) (not_first (given In0) (given In0))

after_two : (given : PickKey → ℕ) → pick.step Pick (answers (pick.val given) (In0 ∷ chosen (given In0) ∷ [])) ≡ Done (given (chosen (given In0)))
after_two given =
    ap (λ o. elim o [ None ↦ Ask (chosen (given In0) ∷ []) | Some v ↦ Done v ]) (second (given In0) (given In0) (pick.val given (chosen (given In0))))
    ∙ ap Done (chosen_value given (given In0))

pick_steps : (given : PickKey → ℕ) (first left : List PickKey) → In0 ∷ chosen (given In0) ∷ [] ≡ first ++ left
    → GoesOn left (given (chosen (given In0))) (pick.step Pick (answers (pick.val given) first))
pick_steps given [] left e = ((omega arith), (chosen (given In0) ∷ [], sym e))
pick_steps given (a ∷ []) left e =
    let ea : In0 ≡ a = cc in
    let el : chosen (given In0) ∷ [] ≡ left = cc in
    subst (λ x. GoesOn left (given (chosen (given In0))) (pick.step Pick (answers (pick.val given) (x ∷ [])))) ea
    (subst (GoesOn left (given (chosen (given In0)))) (sym (after_one given)) ((omega arith), ([], sym el)))
pick_steps given (a ∷ b ∷ []) left e =
    let ea : In0 ≡ a = cc in
    let eb : chosen (given In0) ≡ b = cc in
    let el : [] ≡ left = cc in
    subst (λ x. GoesOn left (given (chosen (given In0))) (pick.step Pick (answers (pick.val given) (x ∷ b ∷ [])))) ea
    (subst (λ x. GoesOn left (given (chosen (given In0))) (pick.step Pick (answers (pick.val given) (In0 ∷ x ∷ [])))) eb
    (subst (GoesOn left (given (chosen (given In0)))) (sym (after_two given)) (sym el, refl)))
pick_steps given (a ∷ b ∷ c ∷ rest) left e = let bad : ⊥ = cc in absurd bad

steps_of : (given : PickKey → ℕ) (k : PickKey) → is_input_key k ≡ false → (first left : List PickKey) → pick.asks given k ≡ first ++ left → GoesOn left (pick.val given k) (pick.step k (answers (pick.val given) first))
steps_of given In0 n first left e = let bad : ⊥ = cc in absurd bad
steps_of given In1 n first left e = let bad : ⊥ = cc in absurd bad
steps_of given In2 n first left e = let bad : ⊥ = cc in absurd bad
steps_of given Pick n first left e = pick_steps given first left e

pick_ranks : (given : PickKey → ℕ) (k d : PickKey) → Has (pick.asks given k) d → pick.rank given d < pick.rank given k
pick_ranks given In0 d h = absurd h
pick_ranks given In1 d h = absurd h
pick_ranks given In2 d h = absurd h
pick_ranks given Pick d (inl e) = subst (λ x. pick.rank given x < 1) e (omega arith)
pick_ranks given Pick d (inr (inl e)) = let z = chosen_rank given (given In0) in subst (λ x. pick.rank given x < 1) e (omega arith)
pick_ranks given Pick d (inr (inr h)) = absurd h

pub pick_lawful : AreLawful pick
pick_lawful = record {
  same = same_means;
  same_self = same_itself;
  inputs = input_value;
  inputs_read = input_reads;
  steps = steps_of;
  ranks = pick_ranks;
}

lookup_is : (k : PickKey) (es : List (PickKey × ℕ)) → lookup (eq-value.it k) es ≡ lookup (same_key k) es
lookup_is k [] = refl
lookup_is k (e ∷ es) = ap (λ b. cond b (Some e.1) (lookup (eq-value.it k) es)) (same_key_is k e.0) ∙ ap (λ l. cond (same_key k e.0) (Some e.1) l) (lookup_is k es)

-- what the run does next, by what the answers hold
pub step_first : (answers : List (PickKey × ℕ)) (o : Option ℕ) → o ≡ lookup (eq-value.it In0) answers → step_at answers (lookup (same_key In0) answers) ≡ step_at answers o
step_first answers o e = ap (step_at answers) (sym (e ∙ lookup_is In0 answers))

pub step_second : (answers : List (PickKey × ℕ)) (n : ℕ) (k : PickKey) (o : Option ℕ) → k ≡ chosen n → o ≡ lookup (eq-value.it k) answers
    → step_at answers (Some n) ≡ elim o [ None ↦ Ask (k ∷ []) | Some v ↦ Done v ]
step_second answers n k o ek e =
    let l : lookup (same_key (chosen n)) answers ≡ o = subst (λ x. lookup (same_key x) answers ≡ o) ek (sym (e ∙ lookup_is k answers)) in
    ap (λ x. elim x [ None ↦ Ask (chosen n ∷ []) | Some v ↦ Done v ]) l ∙ ap (λ x. elim o [ None ↦ Ask (x ∷ []) | Some v ↦ Done v ]) (sym ek)

-- a result holds where it holds of an equal step
pub if_ok_is : {E : Type 0} (r : Result (Step PickKey ℕ) E) (a b : Step PickKey ℕ) → a ≡ b → IfOk r (λ s. s ≡ a) → IfOk r (λ s. s ≡ b)
if_ok_is (Ok s) a b e h = h ∙ e
if_ok_is (Err x) a b e h = tt
