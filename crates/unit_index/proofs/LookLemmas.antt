-- The place of the first occurrence of a key leads to all of them.
use Rattle.std.proofs.Common.{◌≡◌, ℕ, ◌+◌, ◌++◌, Bool, true, false, List, [], ◌∷◌, length, Option, Some, None, refl, sym, ap, subst, ◌∙◌, append_assoc, length-append}
use Rattle.std.specs.Prelude.{if◌then◌else◌}
use Rattle.std.specs.List.{filter, find, slice_get}
use Rattle.tok_data.specs.declared.sources.TokId.{TokId}
use Rattle.scope_tables.specs.declared.entities.Anchor.{Anchor}
use Rattle.scope_tables.specs.declared.entities.Occ.{Occ}
use Rattle.unit_index.specs.declared.chains.By.TheVariants as by
use Rattle.unit_index.specs.Chains.{first_from, left}
use Rattle.scope_tables.specs.Occurrences.{is_at}
use Rattle.unit_index.specs.Occurrences.{is_of}
use Rattle.unit_index.specs.Walks.{Stands}
use Rattle.unit_index.proofs.PlaceLemmas.{there}
use Rattle.unit_index.proofs.WalkLemmas.{leads, is_token, is_anchor}

pub tokens_stand : (os : List Occ) (q : TokId) (o : Option ℕ) → o ≡ first_from (is_at q) 0 os → Stands by.Token os o
tokens_stand os q o is = subst (Stands by.Token os) (sym is) (leads by.Token (is_at q) os [] os 0 (is_token q) refl refl).0

pub tokens_left : (os : List Occ) (q : TokId) (o : Option ℕ) → o ≡ first_from (is_at q) 0 os → left by.Token os o ≡ filter (is_at q) os
tokens_left os q o is = ap (left by.Token os) is ∙ (leads by.Token (is_at q) os [] os 0 (is_token q) refl refl).1

pub anchors_stand : (os : List Occ) (q : Anchor) (o : Option ℕ) → o ≡ first_from (is_of q) 0 os → Stands by.Anchor os o
anchors_stand os q o is = subst (Stands by.Anchor os) (sym is) (leads by.Anchor (is_of q) os [] os 0 (is_anchor q) refl refl).0

pub anchors_left : (os : List Occ) (q : Anchor) (o : Option ℕ) → o ≡ first_from (is_of q) 0 os → left by.Anchor os o ≡ filter (is_of q) os
anchors_left os q o is = ap (left by.Anchor os) is ∙ (leads by.Anchor (is_of q) os [] os 0 (is_anchor q) refl refl).1

-- ---- the first one

abbrev pub at_place : {A : Type 0} → List A → Option ℕ → Option A
at_place xs None = None
at_place xs (Some i) = slice_get xs i

find_by : {A : Type 0} (p : A → Bool) (all xs : List A) (x : A) (n : ℕ) (c : Bool) → slice_get all n ≡ Some x → at_place all (first_from p (n + 1) xs) ≡ find p xs
    → at_place all (if c then Some n else first_from p (n + 1) xs) ≡ (if c then Some x else find p xs)
find_by p all xs x n true here later = here
find_by p all xs x n false here later = later

pub find_is : {A : Type 0} (p : A → Bool) (all front xs : List A) (n : ℕ) → front ++ xs ≡ all → length front ≡ n → at_place all (first_from p n xs) ≡ find p xs
find_is p all front [] n split place = refl
find_is p all front (x ∷ xs) n split place =
    find_by p all xs x n (p x)
    (there all front xs x n split place)
    (find_is p all (front ++ x ∷ []) xs (n + 1) (append_assoc front (x ∷ []) xs ∙ split) (length-append front (x ∷ []) ∙ ap (λ k. k + 1) place))

-- what stands at the first place
pub found : {A : Type 0} (p : A → Bool) (xs : List A) (o : Option ℕ) → o ≡ first_from p 0 xs → at_place xs o ≡ find p xs
found p xs o is = ap (at_place xs) is ∙ find_is p xs [] xs 0 refl refl
