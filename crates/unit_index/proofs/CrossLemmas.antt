-- Warnings that are gathered name by name, and unit by unit.
use Rattle.std.proofs.Common.{◌≡◌, ℕ, ◌+◌, Bool, true, false, List, [], ◌∷◌, ◌++◌, length, drop, Option, Some, None, refl, sym, ap, ◌∙◌, append_assoc, append-nil}
use Rattle.std.specs.Bool.{Decides}
use Rattle.std.specs.List.{find, flat_map, slice_get}
use Rattle.std.specs.Prelude.{if◌then◌else◌}
use Rattle.scope_tables.specs.declared.units.Exports.{Exports}
use Rattle.unit_index.specs.declared.exported.Does.{Does}
use Rattle.unit_index.specs.Exported.{first_in, one, Shown}
use Rattle.unit_index.specs.Firsts.{first_some}
use Rattle.unit_index.proofs.FirstLemmas.{empty, rest_here, rest_none}
use Rattle.unit_index.specs.Matching.{IsExact, IsTest, matched, Test}

pub gathers : {A B : Type 0} (f : A → List B) (out now all : List B) (x : A) (rest behind : List A)
    → rest ≡ x ∷ behind → now ≡ out ++ f x → out ++ flat_map f rest ≡ all → now ++ flat_map f behind ≡ all
gathers f out now all x rest behind here is was =
    ap (λ l. l ++ flat_map f behind) is ∙ append_assoc out (f x) (flat_map f behind) ∙ sym (ap (λ xs. out ++ flat_map f xs) here) ∙ was

gathered_all : {A B : Type 0} (f : A → List B) (out all : List B) (rest : List A) → rest ≡ [] → out ++ flat_map f rest ≡ all → out ≡ all
gathered_all f out all rest none was = sym (append-nil out) ∙ sym (ap (λ xs. out ++ flat_map f xs) none) ∙ was

pub gathered : {A B : Type 0} (f : A → List B) (out all : List B) (rest : List A) → length rest ≡ 0 → out ++ flat_map f rest ≡ all → out ≡ all
gathered f out all rest none was = gathered_all f out all rest (empty rest none) was

both_decide : {P : Type 0} (b c : Bool) → Decides b P → Decides c P → b ≡ c
both_decide true c d e = sym (e.1 (d.0 refl))
both_decide false true d e = d.1 (e.0 refl)
both_decide false false d e = refl

-- an exact test is one, and so is the one that goes so many steps at most
pub exact_tells : (test : Test) → IsExact test → IsTest test
exact_tells test exact = λ ta tb a b said told. both_decide said (test ta tb a b) told.meant (exact ta tb a b)

pub matched_tells : IsTest matched
matched_tells = λ ta tb a b said told. told.value

pub differs_not : {A : Type 0} (out : List A) (same : Bool) (x : A) → true ≡ same → out ≡ out ++ (if same then [] else x ∷ [])
differs_not out same x is = sym (append-nil out) ∙ ap (λ b. out ++ (if b then [] else x ∷ [])) is

pub differs : {A : Type 0} (out now : List A) (same : Bool) (x : A) → false ≡ same → now ≡ out ++ x ∷ [] → now ≡ out ++ (if same then [] else x ∷ [])
differs out now same x is put = put ∙ ap (λ b. out ++ (if b then [] else x ∷ [])) is

-- the first name of a unit, by its parts
pub of_unit_first : (does : Does) (q : List ℕ) (u : Shown) (path : List ℕ) (exports : Exports)
    → path ≡ u.path → exports ≡ u.exports → first_some (one does path exports.tags q) exports.names ≡ first_in does q u
of_unit_first does q u path exports same_path same_exports =
    ap (λ p. first_some (one does p exports.tags q) exports.names) same_path ∙ ap (λ (e : Exports). first_some (one does u.path e.tags q) e.names) same_exports

-- the same by places
pub find_here : {A : Type 0} (p : A → Bool) (x : A) (all : Option A) (xs : List A) (n : ℕ) → Some x ≡ slice_get xs n → true ≡ p x → find p (drop n xs) ≡ all → Some x ≡ all
find_here p x all xs n here hit was =
    ap (λ b. if b then Some x else find p (drop (n + 1) xs)) hit ∙ sym (ap (find p) (rest_here xs n x here)) ∙ was

pub find_later : {A : Type 0} (p : A → Bool) (x : A) (all : Option A) (xs : List A) (n : ℕ) → Some x ≡ slice_get xs n → false ≡ p x → find p (drop n xs) ≡ all → find p (drop (n + 1) xs) ≡ all
find_later p x all xs n here miss was =
    ap (λ b. if b then Some x else find p (drop (n + 1) xs)) miss ∙ sym (ap (find p) (rest_here xs n x here)) ∙ was

pub find_none : {A : Type 0} (p : A → Bool) (all : Option A) (xs : List A) (n : ℕ) → None ≡ slice_get xs n → find p (drop n xs) ≡ all → None ≡ all
find_none p all xs n none was = sym (ap (find p) (rest_none xs n none)) ∙ was
