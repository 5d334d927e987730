-- What is found by the lists of tokens and of what they denote is what the occurrences of the units say.
use Rattle.std.proofs.Common.{arith, ◌≡◌, ℕ, ◌+◌, ◌<◌, ◌==◌, Bool, true, false, List, [], ◌∷◌, ◌++◌, map, Option, Some, None, refl, sym, ap, ◌∙◌}
use Rattle.std.specs.List.{find, flat_map}
use Rattle.std.specs.Prelude.{if◌then◌else◌, not, option_map}
use Rattle.tok_data.specs.declared.sources.TokId.{TokId}
use Rattle.scope_tables.specs.declared.entities.Anchor.{Anchor}
use Rattle.scope_tables.specs.declared.entities.Occ.{Occ}
use Rattle.rename_core.specs.declared.mentions.Told.{Told}
use Rattle.rename_core.specs.Found.{other_told, two_told, name_told}
use Rattle.rename_core.specs.Mentions.{told_in, tolds}
use Rattle.scope_tables.specs.Occurrences.{same_anchor}
use Rattle.rename_core.specs.Occurrences.{anchors_at, or_later, first_some}
use Rattle.rename_core.specs.Showing.{other_than, two_of, two_in, external_name, name_in}

-- ---- two anchors in one unit

eq_itself : (i : ℕ) → i == i ≡ true
eq_itself i = grind arith

eq_not : (i j : ℕ) → i < j → j == i ≡ false
eq_not i j l = grind (arith, l)

abbrev with_first : Anchor → Option Anchor → Option (Anchor × Anchor)
with_first a o = option_map (λ b. (a, b)) o

others : (i : ℕ) (a : Anchor) (xs : List Anchor) (rest : List Told)
    → other_told (told_in i a) (map (told_in i) xs ++ rest) ≡ or_later (with_first a (find (other_than a) xs)) (other_told (told_in i a) rest)
others i a [] rest = refl
others i a (x ∷ xs) rest =
    ap (λ b. if b then (if same_anchor a x then other_told (told_in i a) (map (told_in i) xs ++ rest) else Some (a, x)) else other_told (told_in i x) (map (told_in i) xs ++ rest)) (eq_itself i)
    ∙ by_test (same_anchor a x) (others i a xs rest)
  where
    by_test : (b : Bool) → other_told (told_in i a) (map (told_in i) xs ++ rest) ≡ or_later (with_first a (find (other_than a) xs)) (other_told (told_in i a) rest)
        → (if b then other_told (told_in i a) (map (told_in i) xs ++ rest) else Some (a, x)) ≡ or_later (with_first a (if not b then Some x else find (other_than a) xs)) (other_told (told_in i a) rest)
    by_test true again = again
    by_test false again = refl

-- what the units behind say stands by itself
next_unit : (i : ℕ) (a : Anchor) (j : ℕ) (t : TokId) (us : List (List Occ)) → i < j → other_told (told_in i a) (tolds j t us) ≡ two_told (tolds j t us)
next_unit i a j t [] l = refl
next_unit i a j t (os ∷ us) l = let m : i < j + 1 = omega (arith, l) in by_list (anchors_at t os) (next_unit i a (j + 1) t us m)
  where
    by_list : (xs : List Anchor) → other_told (told_in i a) (tolds (j + 1) t us) ≡ two_told (tolds (j + 1) t us)
        → other_told (told_in i a) (map (told_in j) xs ++ tolds (j + 1) t us) ≡ two_told (map (told_in j) xs ++ tolds (j + 1) t us)
    by_list [] again = again
    by_list (x ∷ xs) again =
        ap (λ b. if b then (if same_anchor a x then other_told (told_in i a) (map (told_in j) xs ++ tolds (j + 1) t us) else Some (a, x)) else other_told (told_in j x) (map (told_in j) xs ++ tolds (j + 1) t us)) (eq_not i j l)

pub two_are : (i : ℕ) (t : TokId) (us : List (List Occ)) → two_told (tolds i t us) ≡ first_some (two_in t) us
two_are i t [] = refl
two_are i t (os ∷ us) = by_list (anchors_at t os) (two_are (i + 1) t us)
  where
    by_list : (xs : List Anchor) → two_told (tolds (i + 1) t us) ≡ first_some (two_in t) us
        → two_told (map (told_in i) xs ++ tolds (i + 1) t us) ≡ or_later (two_of xs) (first_some (two_in t) us)
    by_list [] again = again
    by_list (x ∷ xs) again =
        let l : i < i + 1 = omega arith in
        others i x xs (tolds (i + 1) t us) ∙ ap (or_later (with_first x (find (other_than x) xs))) (next_unit i x (i + 1) t us l ∙ again)

-- ---- a name

some_joined : {A B : Type 0} (f : A → Option B) (xs ys : List A) → first_some f (xs ++ ys) ≡ or_later (first_some f xs) (first_some f ys)
some_joined f [] ys = refl
some_joined {A} {B} f (x ∷ xs) ys = ap (or_later (f x)) (some_joined f xs ys) ∙ by_case (f x) (first_some f xs) (first_some f ys)
  where
    by_case : (a b c : Option B) → or_later a (or_later b c) ≡ or_later (or_later a b) c
    by_case None b c = refl
    by_case (Some z) b c = refl

names_in : (i : ℕ) (xs : List Anchor) → name_told (map (told_in i) xs) ≡ first_some external_name xs
names_in i [] = refl
names_in i (x ∷ xs) = ap (or_later (external_name x)) (names_in i xs)

pub names_are : (i : ℕ) (t : TokId) (us : List (List Occ)) → name_told (tolds i t us) ≡ name_in us t
names_are i t [] = refl
names_are i t (os ∷ us) =
    some_joined (λ x. external_name x.anchor) (map (told_in i) (anchors_at t os)) (tolds (i + 1) t us)
    ∙ ap (λ o. or_later o (name_told (tolds (i + 1) t us))) (names_in i (anchors_at t os))
    ∙ ap (or_later (first_some external_name (anchors_at t os))) (names_are (i + 1) t us)
    ∙ sym (some_joined external_name (anchors_at t os) (flat_map (anchors_at t) us))
