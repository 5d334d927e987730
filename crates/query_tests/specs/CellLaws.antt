-- The cells keep the laws of queries.
use Rattle.std.proofs.Common.{◌≡◌, ◌≢◌, ℕ, zero, suc, ◌+◌, ◌-◌, ◌*◌, ◌<◌, ◌≤◌, ◌==◌, ◌/◌, Bool, ◌&&◌, ◌||◌, nat_le, true, false, if◌then◌else◌, List, [], ◌∷◌, ◌++◌, length, cond, Some, None, refl, sym, ap, subst, ◌∙◌, inl, inr, ◌⊎◌, arith, eq-eqb, eqb-true, append-nil, append_assoc, get_or, drop, is_some, Result, Ok, Err, OnOk}
use Rattle.std.proofs.lemmas.Bool.{cases_eq}
use Rattle.std.proofs.lemmas.List.{drop_more}
use Rattle.std.specs.Map.{lookup}
use Rattle.query_core.specs.Lists.{Has, IsOnce}
use Rattle.query_core.specs.Queries.{AreLawful, GoesOn, answers, HasReadFirst}
use Rattle.query_core.specs.declared.rules.Step.TheVariants.{Ask, Done}
use Rattle.query_tests.specs.contracts.cells.CellPartialEq.TheImpl.{eq-value}
use Rattle.query_tests.specs.declared.cells.Cell.{Cell}
use Rattle.query_tests.specs.declared.cells.Cell.TheVariants.{Input, Half, Chain, Wide, Each, Share, All, Pile, Left, Right, Top}
use Rattle.query_tests.specs.Cells.{cells, same_cell, is_input_cell, halves, shares, is_low, under, last_under, lowest, reads_of, worth, level, rest_of, answer_or_zero, final, step_with, step_one, one_by_one, AreAnswered, has_read_cell}

pub same_cell_is : (a b : Cell) → eq-value.it a b ≡ same_cell a b
same_cell_is (Input a) (Input b) = refl
same_cell_is (Input a) (Half b) = refl
same_cell_is (Input a) (Chain b) = refl
same_cell_is (Input a) (Wide b) = refl
same_cell_is (Input a) (Each b) = refl
same_cell_is (Input a) (Share b) = refl
same_cell_is (Input a) (All b) = refl
same_cell_is (Input a) (Pile m b) = refl
same_cell_is (Input a) Left = refl
same_cell_is (Input a) Right = refl
same_cell_is (Input a) Top = refl
same_cell_is (Half a) (Input b) = refl
same_cell_is (Half a) (Half b) = refl
same_cell_is (Half a) (Chain b) = refl
same_cell_is (Half a) (Wide b) = refl
same_cell_is (Half a) (Each b) = refl
same_cell_is (Half a) (Share b) = refl
same_cell_is (Half a) (All b) = refl
same_cell_is (Half a) (Pile m b) = refl
same_cell_is (Half a) Left = refl
same_cell_is (Half a) Right = refl
same_cell_is (Half a) Top = refl
same_cell_is (Chain a) (Input b) = refl
same_cell_is (Chain a) (Half b) = refl
same_cell_is (Chain a) (Chain b) = refl
same_cell_is (Chain a) (Wide b) = refl
same_cell_is (Chain a) (Each b) = refl
same_cell_is (Chain a) (Share b) = refl
same_cell_is (Chain a) (All b) = refl
same_cell_is (Chain a) (Pile m b) = refl
same_cell_is (Chain a) Left = refl
same_cell_is (Chain a) Right = refl
same_cell_is (Chain a) Top = refl
same_cell_is (Wide a) (Input b) = refl
same_cell_is (Wide a) (Half b) = refl
same_cell_is (Wide a) (Chain b) = refl
same_cell_is (Wide a) (Wide b) = refl
same_cell_is (Wide a) (Each b) = refl
same_cell_is (Wide a) (Share b) = refl
same_cell_is (Wide a) (All b) = refl
same_cell_is (Wide a) (Pile m b) = refl
same_cell_is (Wide a) Left = refl
same_cell_is (Wide a) Right = refl
same_cell_is (Wide a) Top = refl
same_cell_is (Each a) (Input b) = refl
same_cell_is (Each a) (Half b) = refl
same_cell_is (Each a) (Chain b) = refl
same_cell_is (Each a) (Wide b) = refl
same_cell_is (Each a) (Each b) = refl
same_cell_is (Each a) (Share b) = refl
same_cell_is (Each a) (All b) = refl
same_cell_is (Each a) (Pile m b) = refl
same_cell_is (Each a) Left = refl
same_cell_is (Each a) Right = refl
same_cell_is (Each a) Top = refl
same_cell_is (Share a) (Input b) = refl
same_cell_is (Share a) (Half b) = refl
same_cell_is (Share a) (Chain b) = refl
same_cell_is (Share a) (Wide b) = refl
same_cell_is (Share a) (Each b) = refl
same_cell_is (Share a) (Share b) = refl
same_cell_is (Share a) (All b) = refl
same_cell_is (Share a) (Pile m b) = refl
same_cell_is (Share a) Left = refl
same_cell_is (Share a) Right = refl
same_cell_is (Share a) Top = refl
same_cell_is (All a) (Input b) = refl
same_cell_is (All a) (Half b) = refl
same_cell_is (All a) (Chain b) = refl
same_cell_is (All a) (Wide b) = refl
same_cell_is (All a) (Each b) = refl
same_cell_is (All a) (Share b) = refl
same_cell_is (All a) (All b) = refl
same_cell_is (All a) (Pile m b) = refl
same_cell_is (All a) Left = refl
same_cell_is (All a) Right = refl
same_cell_is (All a) Top = refl
same_cell_is (Pile l a) (Input b) = refl
same_cell_is (Pile l a) (Half b) = refl
same_cell_is (Pile l a) (Chain b) = refl
same_cell_is (Pile l a) (Wide b) = refl
same_cell_is (Pile l a) (Each b) = refl
same_cell_is (Pile l a) (Share b) = refl
same_cell_is (Pile l a) (All b) = refl
same_cell_is (Pile l a) (Pile m b) = refl
same_cell_is (Pile l a) Left = refl
same_cell_is (Pile l a) Right = refl
same_cell_is (Pile l a) Top = refl
same_cell_is Left (Input b) = refl
same_cell_is Left (Half b) = refl
same_cell_is Left (Chain b) = refl
same_cell_is Left (Wide b) = refl
same_cell_is Left (Each b) = refl
same_cell_is Left (Share b) = refl
same_cell_is Left (All b) = refl
same_cell_is Left (Pile m b) = refl
same_cell_is Left Left = refl
same_cell_is Left Right = refl
same_cell_is Left Top = refl
same_cell_is Right (Input b) = refl
same_cell_is Right (Half b) = refl
same_cell_is Right (Chain b) = refl
same_cell_is Right (Wide b) = refl
same_cell_is Right (Each b) = refl
same_cell_is Right (Share b) = refl
same_cell_is Right (All b) = refl
same_cell_is Right (Pile m b) = refl
same_cell_is Right Left = refl
same_cell_is Right Right = refl
same_cell_is Right Top = refl
same_cell_is Top (Input b) = refl
same_cell_is Top (Half b) = refl
same_cell_is Top (Chain b) = refl
same_cell_is Top (Wide b) = refl
same_cell_is Top (Each b) = refl
same_cell_is Top (Share b) = refl
same_cell_is Top (All b) = refl
same_cell_is Top (Pile m b) = refl
same_cell_is Top Left = refl
same_cell_is Top Right = refl
same_cell_is Top Top = refl

both_true : (a b : Bool) → (a && b) ≡ true → (a ≡ true) × (b ≡ true)
both_true true b e = (refl, e)
both_true false b e = let bad : ⊥ = cc in absurd bad

pub same_means : (a b : Cell) → same_cell a b ≡ true → a ≡ b
same_means (Input a) (Input b) e = ap Input (grind (arith, e))
same_means (Input a) (Half b) e = let bad : ⊥ = cc in absurd bad
same_means (Input a) (Chain b) e = let bad : ⊥ = cc in absurd bad
same_means (Input a) (Wide b) e = let bad : ⊥ = cc in absurd bad
same_means (Input a) (Each b) e = let bad : ⊥ = cc in absurd bad
same_means (Input a) (Share b) e = let bad : ⊥ = cc in absurd bad
same_means (Input a) (All b) e = let bad : ⊥ = cc in absurd bad
same_means (Input a) (Pile m b) e = let bad : ⊥ = cc in absurd bad
same_means (Input a) Left e = let bad : ⊥ = cc in absurd bad
same_means (Input a) Right e = let bad : ⊥ = cc in absurd bad
same_means (Input a) Top e = let bad : ⊥ = cc in absurd bad
same_means (Half a) (Input b) e = let bad : ⊥ = cc in absurd bad
same_means (Half a) (Half b) e = ap Half (grind (arith, e))
same_means (Half a) (Chain b) e = let bad : ⊥ = cc in absurd bad
same_means (Half a) (Wide b) e = let bad : ⊥ = cc in absurd bad
same_means (Half a) (Each b) e = let bad : ⊥ = cc in absurd bad
same_means (Half a) (Share b) e = let bad : ⊥ = cc in absurd bad
same_means (Half a) (All b) e = let bad : ⊥ = cc in absurd bad
same_means (Half a) (Pile m b) e = let bad : ⊥ = cc in absurd bad
same_means (Half a) Left e = let bad : ⊥ = cc in absurd bad
same_means (Half a) Right e = let bad : ⊥ = cc in absurd bad
same_means (Half a) Top e = let bad : ⊥ = cc in absurd bad
same_means (Chain a) (Input b) e = let bad : ⊥ = cc in absurd bad
same_means (Chain a) (Half b) e = let bad : ⊥ = cc in absurd bad
same_means (Chain a) (Chain b) e = ap Chain (grind (arith, e))
same_means (Chain a) (Wide b) e = let bad : ⊥ = cc in absurd bad
same_means (Chain a) (Each b) e = let bad : ⊥ = cc in absurd bad
same_means (Chain a) (Share b) e = let bad : ⊥ = cc in absurd bad
same_means (Chain a) (All b) e = let bad : ⊥ = cc in absurd bad
same_means (Chain a) (Pile m b) e = let bad : ⊥ = cc in absurd bad
same_means (Chain a) Left e = let bad : ⊥ = cc in absurd bad
same_means (Chain a) Right e = let bad : ⊥ = cc in absurd bad
same_means (Chain a) Top e = let bad : ⊥ = cc in absurd bad
same_means (Wide a) (Input b) e = let bad : ⊥ = cc in absurd bad
same_means (Wide a) (Half b) e = let bad : ⊥ = cc in absurd bad
same_means (Wide a) (Chain b) e = let bad : ⊥ = cc in absurd bad
same_means (Wide a) (Wide b) e = ap Wide (grind (arith, e))
same_means (Wide a) (Each b) e = let bad : ⊥ = cc in absurd bad
same_means (Wide a) (Share b) e = let bad : ⊥ = cc in absurd bad
same_means (Wide a) (All b) e = let bad : ⊥ = cc in absurd bad
same_means (Wide a) (Pile m b) e = let bad : ⊥ = cc in absurd bad
same_means (Wide a) Left e = let bad : ⊥ = cc in absurd bad
same_means (Wide a) Right e = let bad : ⊥ = cc in absurd bad
same_means (Wide a) Top e = let bad : ⊥ = cc in absurd bad
same_means (Each a) (Input b) e = let bad : ⊥ = cc in absurd bad
same_means (Each a) (Half b) e = let bad : ⊥ = cc in absurd bad
same_means (Each a) (Chain b) e = let bad : ⊥ = cc in absurd bad
same_means (Each a) (Wide b) e = let bad : ⊥ = cc in absurd bad
same_means (Each a) (Each b) e = ap Each (grind (arith, e))
same_means (Each a) (Share b) e = let bad : ⊥ = cc in absurd bad
same_means (Each a) (All b) e = let bad : ⊥ = cc in absurd bad
same_means (Each a) (Pile m b) e = let bad : ⊥ = cc in absurd bad
same_means (Each a) Left e = let bad : ⊥ = cc in absurd bad
same_means (Each a) Right e = let bad : ⊥ = cc in absurd bad
same_means (Each a) Top e = let bad : ⊥ = cc in absurd bad
same_means (Share a) (Input b) e = let bad : ⊥ = cc in absurd bad
same_means (Share a) (Half b) e = let bad : ⊥ = cc in absurd bad
same_means (Share a) (Chain b) e = let bad : ⊥ = cc in absurd bad
same_means (Share a) (Wide b) e = let bad : ⊥ = cc in absurd bad
same_means (Share a) (Each b) e = let bad : ⊥ = cc in absurd bad
same_means (Share a) (Share b) e = ap Share (grind (arith, e))
same_means (Share a) (All b) e = let bad : ⊥ = cc in absurd bad
same_means (Share a) (Pile m b) e = let bad : ⊥ = cc in absurd bad
same_means (Share a) Left e = let bad : ⊥ = cc in absurd bad
same_means (Share a) Right e = let bad : ⊥ = cc in absurd bad
same_means (Share a) Top e = let bad : ⊥ = cc in absurd bad
same_means (All a) (Input b) e = let bad : ⊥ = cc in absurd bad
same_means (All a) (Half b) e = let bad : ⊥ = cc in absurd bad
same_means (All a) (Chain b) e = let bad : ⊥ = cc in absurd bad
same_means (All a) (Wide b) e = let bad : ⊥ = cc in absurd bad
same_means (All a) (Each b) e = let bad : ⊥ = cc in absurd bad
same_means (All a) (Share b) e = let bad : ⊥ = cc in absurd bad
same_means (All a) (All b) e = ap All (grind (arith, e))
same_means (All a) (Pile m b) e = let bad : ⊥ = cc in absurd bad
same_means (All a) Left e = let bad : ⊥ = cc in absurd bad
same_means (All a) Right e = let bad : ⊥ = cc in absurd bad
same_means (All a) Top e = let bad : ⊥ = cc in absurd bad
same_means (Pile l a) (Input b) e = let bad : ⊥ = cc in absurd bad
same_means (Pile l a) (Half b) e = let bad : ⊥ = cc in absurd bad
same_means (Pile l a) (Chain b) e = let bad : ⊥ = cc in absurd bad
same_means (Pile l a) (Wide b) e = let bad : ⊥ = cc in absurd bad
same_means (Pile l a) (Each b) e = let bad : ⊥ = cc in absurd bad
same_means (Pile l a) (Share b) e = let bad : ⊥ = cc in absurd bad
same_means (Pile l a) (All b) e = let bad : ⊥ = cc in absurd bad
same_means (Pile l a) (Pile m b) e = let p = both_true (l == m) (a == b) e in let x : l ≡ m = eqb-true l m p.0 in let y : a ≡ b = eqb-true a b p.1 in ap (λ k. Pile k a) x ∙ ap (Pile m) y
same_means (Pile l a) Left e = let bad : ⊥ = cc in absurd bad
same_means (Pile l a) Right e = let bad : ⊥ = cc in absurd bad
same_means (Pile l a) Top e = let bad : ⊥ = cc in absurd bad
same_means Left (Input b) e = let bad : ⊥ = cc in absurd bad
same_means Left (Half b) e = let bad : ⊥ = cc in absurd bad
same_means Left (Chain b) e = let bad : ⊥ = cc in absurd bad
same_means Left (Wide b) e = let bad : ⊥ = cc in absurd bad
same_means Left (Each b) e = let bad : ⊥ = cc in absurd bad
same_means Left (Share b) e = let bad : ⊥ = cc in absurd bad
same_means Left (All b) e = let bad : ⊥ = cc in absurd bad
same_means Left (Pile m b) e = let bad : ⊥ = cc in absurd bad
same_means Left Left e = refl
same_means Left Right e = let bad : ⊥ = cc in absurd bad
same_means Left Top e = let bad : ⊥ = cc in absurd bad
same_means Right (Input b) e = let bad : ⊥ = cc in absurd bad
same_means Right (Half b) e = let bad : ⊥ = cc in absurd bad
same_means Right (Chain b) e = let bad : ⊥ = cc in absurd bad
same_means Right (Wide b) e = let bad : ⊥ = cc in absurd bad
same_means Right (Each b) e = let bad : ⊥ = cc in absurd bad
same_means Right (Share b) e = let bad : ⊥ = cc in absurd bad
same_means Right (All b) e = let bad : ⊥ = cc in absurd bad
same_means Right (Pile m b) e = let bad : ⊥ = cc in absurd bad
same_means Right Left e = let bad : ⊥ = cc in absurd bad
same_means Right Right e = refl
same_means Right Top e = let bad : ⊥ = cc in absurd bad
same_means Top (Input b) e = let bad : ⊥ = cc in absurd bad
same_means Top (Half b) e = let bad : ⊥ = cc in absurd bad
same_means Top (Chain b) e = let bad : ⊥ = cc in absurd bad
same_means Top (Wide b) e = let bad : ⊥ = cc in absurd bad
same_means Top (Each b) e = let bad : ⊥ = cc in absurd bad
same_means Top (Share b) e = let bad : ⊥ = cc in absurd bad
same_means Top (All b) e = let bad : ⊥ = cc in absurd bad
same_means Top (Pile m b) e = let bad : ⊥ = cc in absurd bad
same_means Top Left e = let bad : ⊥ = cc in absurd bad
same_means Top Right e = let bad : ⊥ = cc in absurd bad
same_means Top Top e = refl

pub same_itself : (a : Cell) → same_cell a a ≡ true
same_itself (Input a) = eq-eqb a a refl
same_itself (Half a) = eq-eqb a a refl
same_itself (Chain a) = eq-eqb a a refl
same_itself (Wide a) = eq-eqb a a refl
same_itself (Each a) = eq-eqb a a refl
same_itself (Share a) = eq-eqb a a refl
same_itself (All a) = eq-eqb a a refl
same_itself (Pile l a) = ap (λ b. b && (a == a)) (eq-eqb l l refl) ∙ eq-eqb a a refl
same_itself Left = refl
same_itself Right = refl
same_itself Top = refl

input_value : (given : Cell → ℕ) (c : Cell) → is_input_cell c ≡ true → worth given c ≡ given c
input_value given (Input a) e = refl
input_value given (Half a) e = let bad : ⊥ = cc in absurd bad
input_value given (Chain a) e = let bad : ⊥ = cc in absurd bad
input_value given (Wide a) e = let bad : ⊥ = cc in absurd bad
input_value given (Each a) e = let bad : ⊥ = cc in absurd bad
input_value given (Share a) e = let bad : ⊥ = cc in absurd bad
input_value given (All a) e = let bad : ⊥ = cc in absurd bad
input_value given (Pile l a) e = let bad : ⊥ = cc in absurd bad
input_value given Left e = let bad : ⊥ = cc in absurd bad
input_value given Right e = let bad : ⊥ = cc in absurd bad
input_value given Top e = let bad : ⊥ = cc in absurd bad

input_reads : (given : Cell → ℕ) (c : Cell) → is_input_cell c ≡ true → reads_of c ≡ []
input_reads given (Input a) e = refl
input_reads given (Half a) e = let bad : ⊥ = cc in absurd bad
input_reads given (Chain a) e = let bad : ⊥ = cc in absurd bad
input_reads given (Wide a) e = let bad : ⊥ = cc in absurd bad
input_reads given (Each a) e = let bad : ⊥ = cc in absurd bad
input_reads given (Share a) e = let bad : ⊥ = cc in absurd bad
input_reads given (All a) e = let bad : ⊥ = cc in absurd bad
input_reads given (Pile l a) e = let bad : ⊥ = cc in absurd bad
input_reads given Left e = let bad : ⊥ = cc in absurd bad
input_reads given Right e = let bad : ⊥ = cc in absurd bad
input_reads given Top e = let bad : ⊥ = cc in absurd bad

differ : (a b : Cell) → a ≢ b → same_cell a b ≡ false
differ a b n = elim (same_cell a b) as (λ x. same_cell a b ≡ x → x ≡ false) [ true ↦ (λ e. absurd (n (same_means a b e))) | false ↦ (λ _. refl) ] refl

lookup_answers : (f : Cell → ℕ) (cs : List Cell) (c : Cell) → Has cs c → lookup (same_cell c) (answers f cs) ≡ Some (f c)
lookup_answers f [] c h = absurd h
lookup_answers f (d ∷ cs) c h =
    elim (same_cell c d) as (λ b. same_cell c d ≡ b → cond b (Some (f d)) (lookup (same_cell c) (answers f cs)) ≡ Some (f c)) [
      | true ↦ (λ e. ap (λ x. Some (f x)) (sym (same_means c d e)))
      | false ↦ (λ e. elim h [
        | inl s ↦ (let yes : same_cell c d ≡ true = subst (λ x. same_cell c x ≡ true) (sym s) (same_itself c) in let bad : ⊥ = cc in absurd bad)
        | inr m ↦ lookup_answers f cs c m
      ])
    ] refl

lookup_absent : (f : Cell → ℕ) (cs : List Cell) (c : Cell) → ¬ Has cs c → lookup (same_cell c) (answers f cs) ≡ None
lookup_absent f [] c n = refl
lookup_absent f (d ∷ cs) c n =
    ap (λ b. cond b (Some (f d)) (lookup (same_cell c) (answers f cs))) (differ c d (λ e. n (inl (sym e)))) ∙ lookup_absent f cs c (λ h. n (inr h))

middle : (xs : List Cell) (c : Cell) (ys : List Cell) → Has (xs ++ c ∷ ys) c
middle [] c ys = inl refl
middle (x ∷ xs) c ys = inr (middle xs c ys)

append_cases : (xs ys : List Cell) (c : Cell) → Has (xs ++ ys) c → Has xs c ⊎ Has ys c
append_cases [] ys c h = inr h
append_cases (x ∷ xs) ys c (inl e) = inl (inl e)
append_cases (x ∷ xs) ys c (inr h) = elim (append_cases xs ys c h) [ inl a ↦ inl (inr a) | inr b ↦ inr b ]

once_push : (xs : List Cell) (c : Cell) → IsOnce xs → ¬ Has xs c → IsOnce (xs ++ c ∷ [])
once_push [] c o n = ((λ h. h), tt)
once_push (x ∷ xs) c o n =
    ((λ h. elim (append_cases xs (c ∷ []) x h) [ inl a ↦ o.0 a | inr b ↦ elim b [ inl e ↦ n (inl (sym e)) | inr z ↦ z ] ]), once_push xs c o.1 (λ h. n (inr h)))

-- what is answered is passed over
passes : (had : List (Cell × ℕ)) (first left : List Cell) → ((c : Cell) → Has first c → (v : ℕ) × (lookup (same_cell c) had ≡ Some v)) → rest_of had (first ++ left) ≡ rest_of had left
passes had [] left f = refl
passes had (c ∷ first) left f =
    let s = f c (inl refl) in
    ap (λ o. elim o [ None ↦ c ∷ (first ++ left) | Some v ↦ rest_of had (first ++ left) ]) s.1 ∙ passes had first left (λ d h. f d (inr h))

-- and the first that isn't stops
stops : (had : List (Cell × ℕ)) (c : Cell) (cs : List Cell) → lookup (same_cell c) had ≡ None → rest_of had (c ∷ cs) ≡ c ∷ cs
stops had c cs e = ap (λ o. elim o [ None ↦ c ∷ cs | Some v ↦ rest_of had cs ]) e

once_apart : (first : List Cell) (c : Cell) (cs : List Cell) → IsOnce (first ++ c ∷ cs) → ¬ Has first c
once_apart [] c cs o h = h
once_apart (d ∷ first) c cs o (inl e) = o.0 (subst (λ x. Has (first ++ c ∷ cs) x) (sym e) (middle first c cs))
once_apart (d ∷ first) c cs o (inr h) = once_apart first c cs o.1 h

rest_is : (f : Cell → ℕ) (first left : List Cell) → IsOnce (first ++ left) → rest_of (answers f first) (first ++ left) ≡ left
rest_is f first [] o = passes (answers f first) first [] (λ c h. (f c, lookup_answers f first c h))
rest_is f first (c ∷ cs) o =
    passes (answers f first) first (c ∷ cs) (λ d h. (f d, lookup_answers f first d h)) ∙ stops (answers f first) c cs (lookup_absent f first c (once_apart first c cs o))

abbrev number_of : Cell → ℕ
number_of (Pile l n) = n
number_of c = 0

-- a cell reads nothing twice
in_halves : (n : ℕ) (c : Cell) → Has (halves n) c → (i : ℕ) × ((i < n) × (Half i ≡ c))
in_halves zero c h = absurd h
in_halves (suc n) c h =
    elim (append_cases (halves n) (Half n ∷ []) c h) [
      | inl a ↦ (let r = in_halves n c a in (r.0, ((let l = r.1.0 in omega arith), r.1.1)))
      | inr b ↦ elim b [ inl e ↦ (n, ((omega arith), e)) | inr x ↦ absurd x ]
    ]

once_halves : (n : ℕ) → IsOnce (halves n)
once_halves zero = tt
once_halves (suc n) = once_push (halves n) (Half n) (once_halves n)
    (λ h. let r = in_halves n (Half n) h in let e : r.0 ≡ n = (let s = r.1.1 in cc) in let l = r.1.0 in omega arith)

in_shares : (n : ℕ) (c : Cell) → Has (shares n) c → (i : ℕ) × ((i < n) × (Share i ≡ c))
in_shares zero c h = absurd h
in_shares (suc n) c h =
    elim (append_cases (shares n) (Share n ∷ []) c h) [
      | inl a ↦ (let r = in_shares n c a in (r.0, ((let l = r.1.0 in omega arith), r.1.1)))
      | inr b ↦ elim b [ inl e ↦ (n, ((omega arith), e)) | inr x ↦ absurd x ]
    ]

once_shares : (n : ℕ) → IsOnce (shares n)
once_shares zero = tt
once_shares (suc n) = once_push (shares n) (Share n) (once_shares n)
    (λ h. let r = in_shares n (Share n) h in let e : r.0 ≡ n = (let s = r.1.1 in cc) in let l = r.1.0 in omega arith)

once_reads : (c : Cell) → IsOnce (reads_of c)
once_reads (Input n) = tt
once_reads (Half n) = ((λ h. h), tt)
once_reads (Chain n) = ((λ h. h), tt)
once_reads (Wide n) = once_halves n
once_reads (Each n) = once_halves n
once_reads (Share n) = ((λ h. h), tt)
once_reads (All n) = once_shares n
once_reads (Pile l n) =
    elim (is_low l n) as (λ b. IsOnce (if b then Half n ∷ [] else Pile (l - 1) (2 * n) ∷ Pile (l - 1) (2 * n + 1) ∷ [])) [
      | true ↦ ((λ h. h), tt)
      | false ↦ ((λ h. elim h [ inl e ↦ (let s : 2 * n + 1 ≡ 2 * n = ap number_of e in omega arith) | inr x ↦ x ]), ((λ h. h), tt))
    ]
once_reads Left = ((λ h. h), tt)
once_reads Right = ((λ h. h), tt)
once_reads Top = ((λ h. elim h [ inl e ↦ (let bad : ⊥ = cc in bad) | inr x ↦ x ]), ((λ h. h), tt))

found : (f : Cell → ℕ) (cs : List Cell) (c : Cell) → Has cs c → answer_or_zero (answers f cs) c ≡ f c
found f cs c h = ap (λ o. elim o [ None ↦ 0 | Some v ↦ v ]) (lookup_answers f cs c h)

last_half : (n : ℕ) → (n == 0) ≡ false → Has (halves n) (Half (n - 1))
last_half zero e = let bad : ⊥ = cc in absurd bad
last_half (suc n) e = let s : suc n - 1 ≡ n = omega arith in subst (λ m. Has (halves (suc n)) (Half m)) (sym s) (middle (halves n) (Half n) [])

last_share : (n : ℕ) → (n == 0) ≡ false → Has (shares n) (Share (n - 1))
last_share zero e = let bad : ⊥ = cc in absurd bad
last_share (suc n) e = let s : suc n - 1 ≡ n = omega arith in subst (λ m. Has (shares (suc n)) (Share m)) (sym s) (middle (shares n) (Share n) [])

worth_before : (given : Cell → ℕ) (n : ℕ) → worth given (if n == 0 then Half 0 else Chain (n - 1)) ≡ given (Input 0) / 2
worth_before given n = elim (n == 0) as (λ b. worth given (if b then Half 0 else Chain (n - 1)) ≡ given (Input 0) / 2) [ true ↦ refl | false ↦ refl ]

last_read : (l n : ℕ) → Has (under l n) (last_under l n)
last_read l n =
    elim (is_low l n) as (λ b. Has (if b then Half n ∷ [] else Pile (l - 1) (2 * n) ∷ Pile (l - 1) (2 * n + 1) ∷ []) (if b then Half n else Pile (l - 1) (2 * n + 1))) [
      | true ↦ inl refl
      | false ↦ inr (inl refl)
    ]

low_further : (l n : ℕ) → is_low (suc l) n ≡ nat_le 1073741824 n
low_further l n = let e : (suc l == 0) ≡ false = grind arith in ap (λ b. b || nat_le 1073741824 n) e

worth_under : (given : Cell → ℕ) (l n : ℕ) → worth given (last_under l n) ≡ given (Input (lowest l n)) / 2
worth_under given zero n = refl
worth_under given (suc l) n =
    let back : suc l - 1 ≡ l = omega arith in
    ap (λ b. worth given (if b then Half n else Pile (suc l - 1) (2 * n + 1))) (low_further l n)
    ∙ elim (nat_le 1073741824 n) as (λ b. worth given (if b then Half n else Pile (suc l - 1) (2 * n + 1)) ≡ given (Input (if b then n else lowest l (2 * n + 1))) / 2) [
      | true ↦ refl
      | false ↦ ap (λ k. given (Input (lowest k (2 * n + 1))) / 2) back
    ]

final_is : (given : Cell → ℕ) (c : Cell) → is_input_cell c ≡ false → final c (answers (worth given) (reads_of c)) ≡ worth given c
final_is given (Input n) e = let bad : ⊥ = cc in absurd bad
final_is given (Half n) e = ap (λ v. v / 2) (found (worth given) (Input n ∷ []) (Input n) (inl refl))
final_is given (Chain n) e =
    found (worth given) ((if n == 0 then Half 0 else Chain (n - 1)) ∷ []) (if n == 0 then Half 0 else Chain (n - 1)) (inl refl) ∙ worth_before given n
final_is given (Wide n) e =
    elim (n == 0) as (λ b. (n == 0) ≡ b → (if b then 0 else answer_or_zero (answers (worth given) (halves n)) (Half (n - 1))) ≡ (if b then 0 else given (Input (n - 1)) / 2))
    [ true ↦ (λ _. refl) | false ↦ (λ s. found (worth given) (halves n) (Half (n - 1)) (last_half n s)) ] refl
final_is given (Each n) e =
    elim (n == 0) as (λ b. (n == 0) ≡ b → (if b then 0 else answer_or_zero (answers (worth given) (halves n)) (Half (n - 1))) ≡ (if b then 0 else given (Input (n - 1)) / 2))
    [ true ↦ (λ _. refl) | false ↦ (λ s. found (worth given) (halves n) (Half (n - 1)) (last_half n s)) ] refl
final_is given (Share n) e = found (worth given) (Half 0 ∷ []) (Half 0) (inl refl)
final_is given (All n) e =
    elim (n == 0) as (λ b. (n == 0) ≡ b → (if b then 0 else answer_or_zero (answers (worth given) (shares n)) (Share (n - 1))) ≡ (if b then 0 else given (Input 0) / 2))
    [ true ↦ (λ _. refl) | false ↦ (λ s. found (worth given) (shares n) (Share (n - 1)) (last_share n s)) ] refl
final_is given (Pile l n) e = found (worth given) (under l n) (last_under l n) (last_read l n) ∙ worth_under given l n
final_is given Left e = found (worth given) (Half 0 ∷ []) (Half 0) (inl refl)
final_is given Right e = found (worth given) (Half 0 ∷ []) (Half 0) (inl refl)
final_is given Top e = found (worth given) (Left ∷ Right ∷ []) Right (inr (inl refl))

goes : (given : Cell → ℕ) (c : Cell) → is_input_cell c ≡ false → (first left : List Cell) → reads_of c ≡ first ++ left → GoesOn left (worth given c) (step_with c (answers (worth given) first) left)
goes given c e first [] s =
    let whole : reads_of c ≡ first = s ∙ append-nil first in (refl, subst (λ l. final c (answers (worth given) l) ≡ worth given c) whole (final_is given c e))
goes given c e first (d ∷ left) s = ((omega arith), ([], sym (append-nil (d ∷ left))))

goes_one : (given : Cell → ℕ) (c : Cell) → is_input_cell c ≡ false → (first left : List Cell) → reads_of c ≡ first ++ left → GoesOn left (worth given c) (step_one c (answers (worth given) first) left)
goes_one given c e first [] s =
    let whole : reads_of c ≡ first = s ∙ append-nil first in (refl, subst (λ l. final c (answers (worth given) l) ≡ worth given c) whole (final_is given c e))
goes_one given c e first (d ∷ left) s = ((omega arith), (left, refl))

cell_steps : (given : Cell → ℕ) (c : Cell) → is_input_cell c ≡ false → (first left : List Cell) → reads_of c ≡ first ++ left → GoesOn left (worth given c) (cells.step c (answers (worth given) first))
cell_steps given c e first left s =
    let had = answers (worth given) first in
    let rest : rest_of had (reads_of c) ≡ left = ap (rest_of had) s ∙ rest_is (worth given) first left (subst IsOnce s (once_reads c)) in
    elim (one_by_one c) as (λ b. GoesOn left (worth given c) (if b then step_one c had (rest_of had (reads_of c)) else step_with c had (rest_of had (reads_of c)))) [
      | true ↦ subst (λ l. GoesOn left (worth given c) (step_one c had l)) (sym rest) (goes_one given c e first left s)
      | false ↦ subst (λ l. GoesOn left (worth given c) (step_with c had l)) (sym rest) (goes given c e first left s)
    ]

level_before : (n : ℕ) → level (if n == 0 then Half 0 else Chain (n - 1)) < n + 2
level_before n =
    elim (n == 0) as (λ b. (n == 0) ≡ b → level (if b then Half 0 else Chain (n - 1)) < n + 2)
    [ true ↦ (λ _. omega arith) | false ↦ (λ e. let p : 0 < n = grind (arith, e) in omega arith) ] refl

under_ranks : (l n : ℕ) (d : Cell) → Has (under l n) d → level d < l + 2
under_ranks zero n d (inl e) = subst (λ x. level x < 2) e (omega arith)
under_ranks zero n d (inr x) = absurd x
under_ranks (suc l) n d h =
    elim (nat_le 1073741824 n) as (λ b. Has (if b then Half n ∷ [] else Pile (suc l - 1) (2 * n) ∷ Pile (suc l - 1) (2 * n + 1) ∷ []) d → level d < suc l + 2) [
      | true ↦ (λ m. elim m [ inl e ↦ subst (λ x. level x < suc l + 2) e (omega arith) | inr x ↦ absurd x ])
      | false ↦ (λ m. elim m [
        | inl e ↦ subst (λ x. level x < suc l + 2) e (omega arith)
        | inr k ↦ elim k [ inl e ↦ subst (λ x. level x < suc l + 2) e (omega arith) | inr x ↦ absurd x ]
      ])
    ] (subst (λ b. Has (if b then Half n ∷ [] else Pile (suc l - 1) (2 * n) ∷ Pile (suc l - 1) (2 * n + 1) ∷ []) d) (low_further l n) h)

cell_ranks : (given : Cell → ℕ) (c d : Cell) → Has (reads_of c) d → level d < level c
cell_ranks given (Input n) d h = absurd h
cell_ranks given (Half n) d (inl e) = subst (λ x. level x < 1) e (omega arith)
cell_ranks given (Half n) d (inr x) = absurd x
cell_ranks given (Chain n) d (inl e) = subst (λ x. level x < n + 2) e (level_before n)
cell_ranks given (Chain n) d (inr x) = absurd x
cell_ranks given (Wide n) d h = let r = in_halves n d h in subst (λ x. level x < 2) r.1.1 (omega arith)
cell_ranks given (Each n) d h = let r = in_halves n d h in subst (λ x. level x < 2) r.1.1 (omega arith)
cell_ranks given (Share n) d (inl e) = subst (λ x. level x < 2) e (omega arith)
cell_ranks given (Share n) d (inr x) = absurd x
cell_ranks given (All n) d h = let r = in_shares n d h in subst (λ x. level x < 3) r.1.1 (omega arith)
cell_ranks given (Pile l n) d h = under_ranks l n d h
cell_ranks given Left d (inl e) = subst (λ x. level x < 2) e (omega arith)
cell_ranks given Left d (inr x) = absurd x
cell_ranks given Right d (inl e) = subst (λ x. level x < 2) e (omega arith)
cell_ranks given Right d (inr x) = absurd x
cell_ranks given Top d (inl e) = subst (λ x. level x < 3) e (omega arith)
cell_ranks given Top d (inr (inl e)) = subst (λ x. level x < 3) e (omega arith)
cell_ranks given Top d (inr (inr x)) = absurd x

pub cells_lawful : AreLawful cells
cells_lawful = record {
  same = same_means;
  same_self = same_itself;
  inputs = input_value;
  inputs_read = λ given c e. input_reads given c e;
  steps = cell_steps;
  ranks = cell_ranks;
}

pub lookup_is : (c : Cell) (es : List (Cell × ℕ)) → lookup (eq-value.it c) es ≡ lookup (same_cell c) es
lookup_is c [] = refl
lookup_is c (e ∷ es) = ap (λ b. cond b (Some e.1) (lookup (eq-value.it c) es)) (same_cell_is c e.0) ∙ ap (λ l. cond (same_cell c e.0) (Some e.1) l) (lookup_is c es)

one_more : (had : List (Cell × ℕ)) (cs : List Cell) (place : ℕ) (c : Cell) → place < length cs → c ≡ get_or cs place c → drop place cs ≡ c ∷ drop (place + 1) cs
one_more had cs place c lt e = drop_more cs place c lt ∙ ap (λ x. x ∷ drop (place + 1) cs) (sym e)

pub goes_past : (had : List (Cell × ℕ)) (cs : List Cell) (place : ℕ) (c : Cell) → place < length cs → c ≡ get_or cs place c → is_some (lookup (same_cell c) had) ≡ true
    → rest_of had (drop place cs) ≡ rest_of had cs → rest_of had (drop (place + 1) cs) ≡ rest_of had cs
goes_past had cs place c lt e some so_far =
    elim (lookup (same_cell c) had) as (λ o. lookup (same_cell c) had ≡ o → rest_of had (drop (place + 1) cs) ≡ rest_of had cs) [
      | None ↦ (λ n. let z = ap is_some n in let bad : ⊥ = cc in absurd bad)
      | Some v ↦ (λ s. sym (ap (λ o. elim o [ None ↦ c ∷ drop (place + 1) cs | Some w ↦ rest_of had (drop (place + 1) cs) ]) s) ∙ sym (ap (rest_of had) (one_more had cs place c lt e)) ∙ so_far)
    ] refl

pub stops_at : (had : List (Cell × ℕ)) (cs : List Cell) (place : ℕ) (c : Cell) → place < length cs → c ≡ get_or cs place c → is_some (lookup (same_cell c) had) ≡ false
    → rest_of had (drop place cs) ≡ rest_of had cs → drop place cs ≡ rest_of had cs
stops_at had cs place c lt e none so_far =
    elim (lookup (same_cell c) had) as (λ o. lookup (same_cell c) had ≡ o → drop place cs ≡ rest_of had cs) [
      | Some v ↦ (λ s. let z = ap is_some s in let bad : ⊥ = cc in absurd bad)
      | None ↦ (λ n. let more = one_more had cs place c lt e in more ∙ sym (stops had c (drop (place + 1) cs) n) ∙ sym (ap (rest_of had) more) ∙ so_far)
    ] refl

-- what a run knows of its answers
more_answered : (first more : List (Cell × ℕ)) (c : Cell) → is_some (lookup (same_cell c) first) ≡ true → is_some (lookup (same_cell c) (first ++ more)) ≡ true
more_answered [] more c h = let bad : ⊥ = cc in absurd bad
more_answered (p ∷ first) more c h =
    elim (same_cell c p.0) as (λ b. is_some (cond b (Some p.1) (lookup (same_cell c) first)) ≡ true → is_some (cond b (Some p.1) (lookup (same_cell c) (first ++ more))) ≡ true)
    [ true ↦ (λ _. refl) | false ↦ (λ r. more_answered first more c r) ] h

-- a run that has read the first answers knows as much of all
pub read_answered : (c : Cell) (number : ℕ) (had : List (Cell × ℕ)) → HasReadFirst has_read_cell c number had → AreAnswered had number
read_answered c number had h = subst (λ l. AreAnswered l number) (sym h.2.0) (λ i lt. more_answered h.0 h.1 (Half i) (h.2.1 i lt))

pub one_more_answered : (had : List (Cell × ℕ)) (number : ℕ) → AreAnswered had number → is_some (lookup (same_cell (Half number)) had) ≡ true → AreAnswered had (number + 1)
one_more_answered had number a e i lt =
    elim (cases_eq i number) [ inl s ↦ subst (λ n. is_some (lookup (same_cell (Half n)) had) ≡ true) (sym s) e | inr n ↦ a i (omega arith) ]

answered_halves : (had : List (Cell × ℕ)) (number : ℕ) → AreAnswered had number → (c : Cell) → Has (halves number) c → (v : ℕ) × (lookup (same_cell c) had ≡ Some v)
answered_halves had number a c h =
    let r = in_halves number c h in
    let e : is_some (lookup (same_cell c) had) ≡ true = subst (λ x. is_some (lookup (same_cell x) had) ≡ true) r.1.1 (a r.0 r.1.0) in
    elim (lookup (same_cell c) had) as (λ o. is_some o ≡ true → (v : ℕ) × (o ≡ Some v)) [ None ↦ (λ n. let bad : ⊥ = cc in absurd bad) | Some v ↦ (λ _. (v, refl)) ] e

halves_at : (number place : ℕ) → place < number → (more : List Cell) × (halves number ≡ halves place ++ Half place ∷ more)
halves_at zero place lt = absurd (omega arith)
halves_at (suc n) place lt =
    elim (cases_eq place n) [
      | inl s ↦ ([], subst (λ p. halves (suc n) ≡ halves p ++ Half p ∷ []) (sym s) refl)
      | inr ne ↦ (let r = halves_at n place (omega arith) in
          (r.0 ++ Half n ∷ [], ap (λ l. l ++ Half n ∷ []) r.1 ∙ append_assoc (halves place) (Half place ∷ r.0) (Half n ∷ [])))
    ]

-- the next step of a cell that asks for one half after the other
pub step_open : (had : List (Cell × ℕ)) (number place : ℕ) → AreAnswered had place → place < number → is_some (lookup (same_cell (Half place)) had) ≡ false → cells.step (Each number) had ≡ Ask (Half place ∷ [])
step_open had number place a lt none =
    let cut = halves_at number place lt in
    let missing : lookup (same_cell (Half place)) had ≡ None =
    elim (lookup (same_cell (Half place)) had) as (λ o. is_some o ≡ false → o ≡ None) [ None ↦ (λ _. refl) | Some v ↦ (λ n. let bad : ⊥ = cc in absurd bad) ] none in
    let rest : rest_of had (halves number) ≡ Half place ∷ cut.0 =
    ap (rest_of had) cut.1 ∙ passes had (halves place) (Half place ∷ cut.0) (answered_halves had place a) ∙ stops had (Half place) cut.0 missing in
    ap (step_one (Each number) had) rest

pub step_done : (had : List (Cell × ℕ)) (number place : ℕ) → AreAnswered had place → number ≤ place → cells.step (Each number) had ≡ Done (final (Each number) had)
step_done had number place a le =
    let rest : rest_of had (halves number) ≡ [] =
    ap (rest_of had) (sym (append-nil (halves number))) ∙ passes had (halves number) [] (answered_halves had number (λ i lt. a i (omega arith))) in
    ap (step_one (Each number) had) rest

pub on_ok_from : {A E : Type 0} (r : Result A E) (P : Type 0) → P → OnOk r P
on_ok_from (Ok x) P p = p
on_ok_from (Err e) P p = tt
