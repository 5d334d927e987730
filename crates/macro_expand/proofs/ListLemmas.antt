-- Lists that are made from their ends.
use Rattle.std.proofs.Common.{◌≡◌, ℕ, zero, suc, ◌+◌, ◌-◌, ◌<◌, List, [], ◌∷◌, ◌++◌, length, get_or, drop, map, refl, ap, sym}
use Rattle.std.proofs.Common.{◌∙◌, arith}
use Rattle.std.proofs.Math.Seq.{drop-cons, drop-nil}
use Rattle.std.proofs.lemmas.Option.{slice_get_within, get_or_from_slice_get}
use Rattle.std.specs.Prelude.{Some, None, slice_get}
use Rattle.macro_expand.specs.declared.types.Marked.{Marked}
use Rattle.macro_expand.specs.Tokens.{last_of, with_first}

pub last_of_snoc : (xs : List Marked) (x : Marked) → last_of (xs ++ x ∷ []) ≡ Some (xs, x)
last_of_snoc [] x = refl
last_of_snoc (y ∷ ys) x = ap (with_first y) (last_of_snoc ys x)

pub map_snoc : {A B : Type 0} (f : A → B) (xs : List A) (x : A) (ys : List B) → map f (xs ++ x ∷ []) ++ ys ≡ map f xs
    ++ f x ∷ ys
map_snoc f [] x ys = refl
map_snoc f (z ∷ zs) x ys = ap (λ l. f z ∷ l) (map_snoc f zs x ys)

-- the element at a place stands before those behind it
pub drop_next : {A : Type 0} (xs : List A) (j : ℕ) (x : A) → j < length xs → x ≡ get_or xs j x → drop j xs ≡ x ∷ drop
    (j + 1) xs
drop_next xs j x within at =
    let next : suc j ≡ j + 1 = omega arith in
    drop-cons xs j x within ∙ (ap (λ y. y ∷ drop (suc j) xs) (sym at) ∙ ap (λ k. x ∷ drop k xs) next)

pub drop_at : {A : Type 0} (xs : List A) (j : ℕ) (x : A) → slice_get xs j ≡ Some x → drop j xs ≡ x ∷ drop (j + 1) xs
drop_at xs j x is = drop_next xs j x (slice_get_within xs j x is) (sym (get_or_from_slice_get xs j x x is))

pub drop_none : {A : Type 0} (xs : List A) (j : ℕ) → slice_get xs j ≡ None → drop j xs ≡ []
drop_none [] j none = drop-nil j
drop_none (x ∷ xs) zero none = cc
drop_none (x ∷ xs) (suc j) none = drop_none xs j none

-- one more than the rest
pub drop_more : {A : Type 0} (n : ℕ) (xs : List A) → 0 < n → drop (n - 1) (drop 1 xs) ≡ drop n xs
drop_more n [] some = drop-nil (n - 1) ∙ sym (drop-nil n)
drop_more n (x ∷ xs) some =
    let next : n ≡ suc (n - 1) = omega (arith, some) in
    sym (ap (λ k. drop k (x ∷ xs)) next)
