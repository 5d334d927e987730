-- What is kept of sets and of what was made of two.
use Rattle.std.proofs.Common.{◌≡◌, ℕ, Bool, true, false, List, [], ◌∷◌, Some, nat_eq, cond, if◌then◌else◌, refl, sym, subst, rules}
use Rattle.std.proofs.lemmas.List.Elements.{All-cons, All-head, All-tail}
use Rattle.std.specs.Bool.{Decides}
use Rattle.std.specs.Cmp.Lexicographic.{pointwise, bytes_decides, pointwise_decides}
use Rattle.std.specs.List.{All}
use Rattle.std.specs.Map.{lookup}
use Rattle.indexmap.specs.IndexMap.{insert_entry}
use Rattle.macro_expand.specs.Ties.Codes.{Names, coded}
use Rattle.macro_expand.specs.Ties.Stands.{joined}
use Rattle.macro_expand.specs.declared.names.How.{How}
use Rattle.macro_expand.specs.declared.sets.Join.{Join}
use Rattle.macro_expand.specs.contracts.sets.JoinPartialEq.TheImpl.{eq-value}

-- `==` of lists of names, each the list of its bytes
pub same_names : (names more : List (List ℕ)) → pointwise (pointwise nat_eq) names more ≡ true → names ≡ more
same_names names more e = (pointwise_decides bytes_decides names more).0 e

-- `==` of the keys of what is remembered
pub same_join : (a b : Join) → eq-value.it a b ≡ true → a ≡ b
same_join a b e = let same : Decides (eq-value.it a b) (a ≡ b) = search rules in same.0 e

-- what is made of the sets with a key's numbers
pub joined_is : (f : Names → Names) (j : Join) (how : How) (left right : Names)
    → j.how ≡ how → coded j.left ≡ left → coded j.right ≡ right
    → joined j.how (f (coded j.left)) (f (coded j.right)) ≡ joined how (f left) (f right)
joined_is f j how left right h l r = λ i. joined (h i) (f (l i)) (f (r i))

module _ {K X : Type 0} (eq : K → K → Bool) (same : (x y : K) → eq x y ≡ true → x ≡ y) (P : K × X → Type 0) where
  -- what holds of each entry holds of the one that is found
  pub All-found : (k : K) (v : X) (es : List (K × X)) → All P es → lookup (eq k) es ≡ Some v → P (k, v)
  All-found k v [] all is = let bad : ⊥ = cc in absurd bad
  All-found k v (e ∷ es) all is = first (eq k e.0) refl is (All-found k v es (All-tail P e es all))
    where
      first : (b : Bool) → eq k e.0 ≡ b → cond b (Some e.1) (lookup (eq k) es) ≡ Some v → (lookup (eq k) es ≡ Some v → P (k, v)) → P (k, v)
      first true t s later =
          let value : e.1 ≡ v = cc in
          subst P (λ i. (sym (same k e.0 t) i, value i)) (All-head P e es all)
      first false t s later = later s

  -- and of each once one more is put in of which it holds
  pub All-put : (k : K) (v : X) (es : List (K × X)) → All P es → P (k, v) → All P (insert_entry eq es k v)
  All-put k v [] all new = All-cons P (k, v) [] new all
  All-put k v (e ∷ es) all new = place (eq k e.0) refl (All-put k v es (All-tail P e es all) new)
    where
      place : (b : Bool) → eq k e.0 ≡ b → All P (insert_entry eq es k v)
          → All P (if b then (e.0, v) ∷ es else e ∷ insert_entry eq es k v)
      place true t later = All-cons P (e.0, v) es (subst (λ q. P (q, v)) (same k e.0 t) new) (All-tail P e es all)
      place false t later = All-cons P e (insert_entry eq es k v) (All-head P e es all) later
