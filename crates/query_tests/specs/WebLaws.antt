-- The web keeps the laws of queries.
use Rattle.std.proofs.Common.{◌≡◌, ℕ, zero, suc, ◌+◌, ◌-◌, ◌%◌, ◌<◌, ◌≤◌, ◌==◌, Bool, true, false, if◌then◌else◌, List, [], ◌∷◌, ◌++◌, length, get_or, cond, Result, Ok, Err, IfOk, Option, Some, None, nat_lt, refl, sym, ap, subst, ◌∙◌, inl, inr, arith, eq-eqb}
use Rattle.std.proofs.lemmas.Bool.{cases_eq, cases_lt}
use Rattle.std.proofs.lemmas.List.{length_push}
use Rattle.std.specs.Map.{lookup}
use Rattle.query_core.specs.Lists.{Has}
use Rattle.query_core.specs.Queries.{AreLawful, GoesOn, answers}
use Rattle.query_core.specs.declared.rules.Step.{Step}
use Rattle.query_core.specs.declared.rules.Step.TheVariants.{Ask, Done}
use Rattle.query_tests.specs.contracts.web.KnotPartialEq.TheImpl.{eq-value}
use Rattle.query_tests.specs.declared.web.Knot.{Knot}
use Rattle.query_tests.specs.Web.{web, same_knot, knot, first_number, second_number, joined, value_from, values, worth, reads_of, step_first, step_second}

-- the test of keys that the program has is this one
pub same_knot_is : (a b : Knot) → eq-value.it a b ≡ same_knot a b
same_knot_is a b = refl

knot_from : (a b : Knot) → a.number ≡ b.number → a ≡ b
knot_from a b e = λ i. record { number = e i }

same_means : (a b : Knot) → same_knot a b ≡ true → a ≡ b
same_means a b e = knot_from a b (grind (arith, e))

not_small : (n : ℕ) → nat_lt n 8 ≡ false → 8 ≤ n
not_small n e = elim (cases_lt n 8) [ inl lt ↦ absurd (let bad : ⊥ = grind (arith, e, lt) in bad) | inr le ↦ le ]

first_less : (n : ℕ) → 8 ≤ n → first_number n < n
unfolding first_number
first_less n le = elim (n % 2 == 0) as (λ b. (if b then n - 1 else n - 4) < n) [ true ↦ omega arith | false ↦ omega arith ]

first_more : (n : ℕ) → 8 ≤ n → n ≤ first_number n + 4
unfolding first_number
first_more n le = elim (n % 2 == 0) as (λ b. n ≤ (if b then n - 1 else n - 4) + 4) [ true ↦ omega arith | false ↦ omega arith ]

second_less : (n v : ℕ) → 8 ≤ n → second_number n v + 6 ≤ n
unfolding second_number
second_less n v le = elim (v == 0) as (λ b. (if b then n - 6 else n - 8) + 6 ≤ n) [ true ↦ omega arith | false ↦ omega arith ]

get_left : (xs ys : List ℕ) (i : ℕ) → i < length xs → get_or (xs ++ ys) i 0 ≡ get_or xs i 0
get_left [] ys i lt = absurd (omega arith)
get_left (x ∷ xs) ys zero lt = refl
get_left (x ∷ xs) ys (suc i) lt = get_left xs ys i (omega arith)

get_end : (xs : List ℕ) (x i : ℕ) → i ≡ length xs → get_or (xs ++ x ∷ []) i 0 ≡ x
get_end [] x zero e = refl
get_end [] x (suc i) e = absurd (omega arith)
get_end (y ∷ xs) x zero e = absurd (omega arith)
get_end (y ∷ xs) x (suc i) e = get_end xs x i (omega arith)

values_length : (given : Knot → ℕ) (n : ℕ) → length (values given n) ≡ n
values_length given zero = refl
values_length given (suc n) = length_push (values given n) (value_from given n (values given n)) ∙ ap (λ m. m + 1) (values_length given n) ∙ (omega arith)

value_at : (given : Knot → ℕ) (n j : ℕ) → j < n → get_or (values given n) j 0 ≡ worth given j
value_at given zero j lt = absurd (omega arith)
value_at given (suc n) j lt =
    let l = values_length given n in
    elim (cases_eq j n) [
      | inl e ↦ get_end (values given n) (worth given n) j (e ∙ sym l) ∙ ap (worth given) (sym e)
      | inr ne ↦ get_left (values given n) (worth given n ∷ []) j (omega arith) ∙ value_at given n j (omega arith)
    ]

input_worth : (given : Knot → ℕ) (k : Knot) → nat_lt k.number 8 ≡ true → worth given k.number ≡ given k
unfolding value_from
input_worth given k e =
    ap
    (λ (b : Bool). if b then given (knot k.number) else joined (get_or (values given k.number) (first_number k.number) 0) (get_or (values given k.number) (second_number k.number (get_or (values given k.number) (first_number k.number) 0)) 0))
    e

worth_is : (given : Knot → ℕ) (n : ℕ) → nat_lt n 8 ≡ false → worth given n ≡ joined (worth given (first_number n)) (worth given (second_number n (worth given (first_number n))))
unfolding value_from
worth_is given n e =
    let le = not_small n e in
    let lt1 = first_less n le in
    let le2 = second_less n (worth given (first_number n)) le in
    ap
    (λ (b : Bool). if b then given (knot n) else joined (get_or (values given n) (first_number n) 0) (get_or (values given n) (second_number n (get_or (values given n) (first_number n) 0)) 0))
    e
    ∙ ap (λ v. joined v (get_or (values given n) (second_number n v) 0)) (value_at given n (first_number n) lt1)
    ∙ ap (joined (worth given (first_number n))) (value_at given n (second_number n (worth given (first_number n))) (omega arith))

module _ (given : Knot → ℕ) (n : ℕ) (le : 8 ≤ n) where
  v1 : ℕ
  v1 = worth given (first_number n)

  apart : (second_number n (worth given (first_number n)) == first_number n) ≡ false
  apart =
      let more = first_more n le in
      let less = second_less n (worth given (first_number n)) le in
      elim (second_number n (worth given (first_number n)) == first_number n) as (λ b. (second_number n (worth given (first_number n)) == first_number n) ≡ b → b ≡ false) [
        | true ↦ (λ e. absurd (let s : second_number n (worth given (first_number n)) ≡ first_number n = grind (arith, e) in let bad : ⊥ = omega arith in bad))
        | false ↦ (λ _. refl)
      ] refl

  after_one : step_first n ((knot (first_number n), worth given (first_number n)) ∷ []) (lookup (same_knot (knot (first_number n))) ((knot (first_number n), worth given (first_number n)) ∷ []))
      ≡ Ask (knot (second_number n (worth given (first_number n))) ∷ [])
  after_one =
      let es = (knot (first_number n), worth given (first_number n)) ∷ [] in
      ap (λ b. step_first n es (cond b (Some (worth given (first_number n))) None)) (eq-eqb (first_number n) (first_number n) refl)
      ∙ ap (λ b. step_second n (cond b (Some (worth given (first_number n))) None) (worth given (first_number n))) apart

  after_two : (w : ℕ)
      → step_first n ((knot (first_number n), worth given (first_number n)) ∷ (knot (second_number n (worth given (first_number n))), w) ∷ [])
      (lookup (same_knot (knot (first_number n))) ((knot (first_number n), worth given (first_number n)) ∷ (knot (second_number n (worth given (first_number n))), w) ∷ []))
      ≡ Done (joined (worth given (first_number n)) w)
  after_two w =
      let s = second_number n (worth given (first_number n)) in
      let es = (knot (first_number n), worth given (first_number n)) ∷ (knot s, w) ∷ [] in
      ap (λ b. step_first n es (cond b (Some (worth given (first_number n))) (lookup (same_knot (knot (first_number n))) ((knot s, w) ∷ [])))) (eq-eqb (first_number n) (first_number n) refl)
      ∙ ap (λ b. step_second n (cond b (Some (worth given (first_number n))) (cond (s == s) (Some w) None)) (worth given (first_number n))) apart
      ∙ ap (λ b. step_second n (cond b (Some w) None) (worth given (first_number n))) (eq-eqb s s refl)

web_steps : (given : Knot → ℕ) (k : Knot) → nat_lt k.number 8 ≡ false → (first left : List Knot) → reads_of given k.number ≡ first ++ left
    → GoesOn left (worth given k.number) (web.step k (answers (web.val given) first))
web_steps given k n [] left e = ((omega arith), (knot (second_number k.number (worth given (first_number k.number))) ∷ [], sym e))
web_steps given k n (a ∷ []) left e =
    let ea : knot (first_number k.number) ≡ a = cc in
    let el : knot (second_number k.number (worth given (first_number k.number))) ∷ [] ≡ left = cc in
    subst (λ x. GoesOn left (worth given k.number) (web.step k (answers (web.val given) (x ∷ [])))) ea
    (subst (GoesOn left (worth given k.number)) (sym (after_one given k.number (not_small k.number n))) ((omega arith), ([], sym el)))
web_steps given k n (a ∷ b ∷ []) left e =
    let ea : knot (first_number k.number) ≡ a = cc in
    let eb : knot (second_number k.number (worth given (first_number k.number))) ≡ b = cc in
    let el : [] ≡ left = cc in
    subst (λ x. GoesOn left (worth given k.number) (web.step k (answers (web.val given) (x ∷ b ∷ [])))) ea
    (subst (λ x. GoesOn left (worth given k.number) (web.step k (answers (web.val given) (knot (first_number k.number) ∷ x ∷ [])))) eb
    (subst (GoesOn left (worth given k.number)) (sym (after_two given k.number (not_small k.number n) (worth given (second_number k.number (worth given (first_number k.number))))))
    (sym el, sym (worth_is given k.number n))))
web_steps given k n (a ∷ b ∷ c ∷ rest) left e = let bad : ⊥ = cc in absurd bad

steps_of : (given : Knot → ℕ) (k : Knot) → nat_lt k.number 8 ≡ false → (first left : List Knot) → web.asks given k ≡ first ++ left → GoesOn left (worth given k.number) (web.step k (answers (web.val given) first))
steps_of given k n first left e = web_steps given k n first left (sym (ap (λ (b : Bool). if b then [] else reads_of given k.number) n) ∙ e)

ranks_of : (given : Knot → ℕ) (k d : Knot) → Has (web.asks given k) d → d.number < k.number
ranks_of given k d h =
    elim (nat_lt k.number 8) as (λ b. nat_lt k.number 8 ≡ b → Has (if b then [] else reads_of given k.number) d → d.number < k.number) [
      | true ↦ (λ _ m. absurd m)
      | false ↦ (λ n m.
          let le = not_small k.number n in
          elim m [
            | inl e ↦ (let lt = first_less k.number le in subst (λ (x : Knot). x.number < k.number) e lt)
            | inr r ↦ elim r [
              | inl e ↦ (let l = second_less k.number (worth given (first_number k.number)) le in subst (λ (x : Knot). x.number < k.number) e (omega arith))
              | inr c ↦ absurd c
            ]
          ])
    ] refl h

pub web_lawful : AreLawful web
web_lawful = record {
  same = same_means;
  same_self = λ a. eq-eqb a.number a.number refl;
  inputs = input_worth;
  inputs_read = λ given k e. ap (λ (b : Bool). if b then [] else reads_of given k.number) e;
  steps = steps_of;
  ranks = ranks_of;
}

lookup_is : (k : Knot) (es : List (Knot × ℕ)) → lookup (eq-value.it k) es ≡ lookup (same_knot k) es
lookup_is k [] = refl
lookup_is k (e ∷ es) = ap (λ b. cond b (Some e.1) (lookup (eq-value.it k) es)) (same_knot_is k e.0) ∙ ap (λ l. cond (same_knot k e.0) (Some e.1) l) (lookup_is k es)

-- what the run does next, by what the answers hold
pub found_first : (n : ℕ) (answers : List (Knot × ℕ)) (k : Knot) (o : Option ℕ) → k ≡ knot (first_number n) → o ≡ lookup (eq-value.it k) answers
    → step_first n answers (lookup (same_knot (knot (first_number n))) answers) ≡ step_first n answers o
found_first n answers k o ek e = ap (step_first n answers) (sym (subst (λ x. o ≡ lookup (same_knot x) answers) ek (e ∙ lookup_is k answers)))

pub found_second : (n v : ℕ) (answers : List (Knot × ℕ)) (k : Knot) (o : Option ℕ) → k ≡ knot (second_number n v) → o ≡ lookup (eq-value.it k) answers
    → step_first n answers (Some v) ≡ step_second n o v
found_second n v answers k o ek e = ap (λ x. step_second n x v) (sym (subst (λ x. o ≡ lookup (same_knot x) answers) ek (e ∙ lookup_is k answers)))

-- a result holds where it holds of an equal step
pub if_ok_step : {E : Type 0} (r : Result (Step Knot ℕ) E) (a b : Step Knot ℕ) → a ≡ b → IfOk r (λ s. s ≡ a) → IfOk r (λ s. s ≡ b)
if_ok_step (Ok s) a b e h = h ∙ e
if_ok_step (Err x) a b e h = tt
