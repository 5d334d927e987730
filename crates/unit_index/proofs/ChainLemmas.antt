-- First places that are noted from a list's end to its front.
use Rattle.std.proofs.Common.{arith, ◌≡◌, ℕ, ◌+◌, ◌++◌, Bool, List, [], ◌∷◌, length, Option, Some, None, refl, sym, ap, ◌∙◌, append_assoc, length-append}
use Rattle.std.proofs.lemmas.List.{append-nil}
use Rattle.std.specs.Prelude.{if◌then◌else◌}
use Rattle.unit_index.specs.Chains.{first_from}

pub length_end : {A : Type 0} (xs ys : List A) (x : A) → ys ≡ xs ++ x ∷ [] → length ys ≡ length xs + 1
length_end xs ys x e = ap length e ∙ length-append xs (x ∷ [])

pub empty : {A : Type 0} (xs : List A) → length xs ≡ 0 → xs ≡ []
empty [] e = refl
empty (x ∷ xs) e = let bad : ⊥ = omega (arith, e) in absurd bad

-- ---- the first place of each key

-- what stands behind, of which the map has the first places
pub record AreFirst {A K : Type 0} (p : K → A → Bool) (all rest : List A) (at : K → Option ℕ) : Type 0 where
  pub behind : List A
  pub split : rest ++ behind ≡ all
  pub firsts : (q : K) → at q ≡ first_from (p q) (length rest) behind

pub first_begins : {A K : Type 0} (p : K → A → Bool) (all : List A) (at : K → Option ℕ) → ((q : K) → at q ≡ None) → AreFirst p all all at
first_begins p all at none = record { behind = []; split = append-nil all; firsts = none }

pub first_turns : {A K : Type 0} (p : K → A → Bool) (all rest before : List A) (x : A) (at at' : K → Option ℕ) → rest ≡ before ++ x ∷ []
    → ((q : K) → at' q ≡ (if p q x then Some (length before) else at q))
    → AreFirst p all rest at → AreFirst p all before at'
first_turns p all rest before x at at' is put was = record {
  behind = x ∷ was.behind;
  split = sym (append_assoc before (x ∷ []) was.behind) ∙ ap (λ xs. xs ++ was.behind) (sym is) ∙ was.split;
  firsts = λ q. put q ∙ ap (λ o. if p q x then Some (length before) else o) (was.firsts q ∙ ap (λ n. first_from (p q) n was.behind) (length_end before rest x is));
}

pub first_ends : {A K : Type 0} (p : K → A → Bool) (all rest : List A) (at : K → Option ℕ) → length rest ≡ 0 → AreFirst p all rest at
    → (q : K) → at q ≡ first_from (p q) 0 all
first_ends p all rest at none was q =
    was.firsts q ∙ ap (λ n. first_from (p q) n was.behind) none ∙ ap (λ xs. first_from (p q) 0 xs) (ap (λ xs. xs ++ was.behind) (sym (empty rest none)) ∙ was.split)
