-- Maps of texts, look-up by look-up.
use Rattle.std.proofs.Common.{◌≡◌, ℕ, Bool, true, false, cond, ◌||◌, List, [], Option, Some, is_some, unwrap_or, is_eq, bytes_eq, refl, sym, ap, ◌∙◌}
use Rattle.std.specs.BTreeMap as tree
use Rattle.std.specs.BTreeMap.{BTreeMap, is_at}
use Rattle.std.specs.Cmp.Lexicographic.{slice_cmp}
use Rattle.std.specs.Ordering.{nat_cmp}
use Rattle.std.proofs.lemmas.Map.Text.{is_eq-slice_cmp}
use Rattle.std.proofs.lemmas.Slice.Eq.{bytes_eq-Decides}

-- two texts are the same in both directions
bytes_by : (a b : List ℕ) (x y : Bool) → bytes_eq a b ≡ x → bytes_eq b a ≡ y → x ≡ y
bytes_by a b true true e f = refl
bytes_by a b false false e f = refl
bytes_by a b true false e f = sym ((bytes_eq-Decides b a).1 (sym ((bytes_eq-Decides a b).0 e))) ∙ f
bytes_by a b false true e f = sym e ∙ (bytes_eq-Decides a b).1 (sym ((bytes_eq-Decides b a).0 f))

pub bytes_back : (a b : List ℕ) → bytes_eq a b ≡ bytes_eq b a
bytes_back a b = bytes_by a b (bytes_eq a b) (bytes_eq b a) refl refl

pub ties : (k q : List ℕ) → is_eq (slice_cmp nat_cmp k q) ≡ bytes_eq q k
ties k q = is_eq-slice_cmp k q ∙ bytes_back k q

module _ {X : Type 0} (m n : BTreeMap (List ℕ) X) (k : List ℕ) (w : Option X)
    (h : (q : List ℕ) → tree.get (slice_cmp nat_cmp) n q ≡ cond (is_at (slice_cmp nat_cmp k) q) w (tree.get (slice_cmp nat_cmp) m q)) where
  -- what stands at a key behind an update
  pub updated : (q : List ℕ) → tree.get (slice_cmp nat_cmp) n q ≡ cond (bytes_eq q k) w (tree.get (slice_cmp nat_cmp) m q)
  updated q = h q ∙ ap (λ b. cond b w (tree.get (slice_cmp nat_cmp) m q)) (ties k q)

  pub elsewhere : (q : List ℕ) → bytes_eq q k ≡ false → tree.get (slice_cmp nat_cmp) n q ≡ tree.get (slice_cmp nat_cmp) m q
  elsewhere q apart = updated q ∙ ap (λ b. cond b w (tree.get (slice_cmp nat_cmp) m q)) apart

  pub here : tree.get (slice_cmp nat_cmp) n k ≡ w
  here = updated k ∙ ap (λ b. cond b w (tree.get (slice_cmp nat_cmp) m k)) ((bytes_eq-Decides k k).1 refl)

some_or : {X : Type 0} (b : Bool) (x : X) (o : Option X) → is_some (cond b (Some x) o) ≡ (b || is_some o)
some_or true x o = refl
some_or false x o = refl

-- whether something stands there, behind an insertion
pub stands : {X : Type 0} (m n : BTreeMap (List ℕ) X) (k : List ℕ) (x : X) →
    ((q : List ℕ) → tree.get (slice_cmp nat_cmp) n q ≡ cond (is_at (slice_cmp nat_cmp k) q) (Some x) (tree.get (slice_cmp nat_cmp) m q)) →
    (q : List ℕ) → is_some (tree.get (slice_cmp nat_cmp) n q) ≡ (bytes_eq q k || is_some (tree.get (slice_cmp nat_cmp) m q))
stands m n k x h q = ap is_some (updated m n k (Some x) h q) ∙ some_or (bytes_eq q k) x (tree.get (slice_cmp nat_cmp) m q)

list_or : {A : Type 0} (b : Bool) (xs : List A) (o : Option (List A)) → unwrap_or (cond b (Some xs) o) [] ≡ cond b xs (unwrap_or o [])
list_or true xs o = refl
list_or false xs o = refl

-- the list that stands there, behind an insertion
pub lists : {A : Type 0} (m n : BTreeMap (List ℕ) (List A)) (k : List ℕ) (xs : List A) →
    ((q : List ℕ) → tree.get (slice_cmp nat_cmp) n q ≡ cond (is_at (slice_cmp nat_cmp k) q) (Some xs) (tree.get (slice_cmp nat_cmp) m q)) →
    (q : List ℕ) → unwrap_or (tree.get (slice_cmp nat_cmp) n q) [] ≡ cond (bytes_eq q k) xs (unwrap_or (tree.get (slice_cmp nat_cmp) m q) [])
lists m n k xs h q = ap (λ o. unwrap_or o []) (updated m n k (Some xs) h q) ∙ list_or (bytes_eq q k) xs (tree.get (slice_cmp nat_cmp) m q)
