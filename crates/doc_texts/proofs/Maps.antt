-- Finite maps from texts: those of a tree's entries, and sums over their values.
use Rattle.std.proofs.Common.{◌≡◌, ℕ, ◌+◌, Bool, true, false, cond, T, List, [], ◌∷◌, map, length, ◌&&◌, Option, Some, None, option_map, unwrap_or, sum_by, is_eq, is_lt, nat_cmp, Ordering, Less, Equal, Greater, sym, refl, ap, ◌∙◌, arith, true≢false}
use Rattle.std.specs.BTreeMap as tree
use Rattle.std.specs.BTreeMap.{BTreeMap, insert_entry, is_at}
use Rattle.std.specs.Cmp.Lexicographic.{slice_cmp, nat_list_cmp_total}
use Rattle.std.specs.FinMap.{empty, len-entries, len-empty, get, insert, remove, keys, values, entries, from_entries, find, put, is_sorted, entries_sorted, entries-insert, get-entries, get-insert, get-remove, get_tied, get-from_entries, same_map, slice_cmp-IsAntisymmetric, nat_cmp-IsAntisymmetric, IsAntisymmetric}
use Rattle.std.specs.FinMap.Entries.{below_all, by_order}
use Rattle.std.specs.List.{AllByRecursion}
use Rattle.std.specs.List.Sorted.{IsStrictlySortedBy}
use Rattle.std.specs.Map.{lookup, keys_of, values_of}
use Rattle.std.specs.Ordering.{eq_by_cmp, match_ordering}
use Rattle.std.proofs.lemmas.Cmp.{tied_itself, eq_by_cmp_equiv}
use Rattle.std.proofs.lemmas.Map.Entries.{sum_by-insert_entry}
use Rattle.doc_texts.specs.Texts.{TextMap}

-- the order of texts by their bytes
abbrev pub by_bytes : List ℕ → List ℕ → Ordering
by_bytes = slice_cmp nat_cmp

-- two texts have the same bytes
abbrev pub ties : List ℕ → List ℕ → Bool
ties = eq_by_cmp by_bytes

apart : IsAntisymmetric by_bytes
apart = slice_cmp-IsAntisymmetric nat_cmp-IsAntisymmetric

pub ties_itself : (k : List ℕ) → ties k k ≡ true
ties_itself k = ap is_eq (tied_itself nat_list_cmp_total k)

pub ties_back : (q k : List ℕ) → ties q k ≡ ties k q
ties_back q k = (eq_by_cmp_equiv nat_list_cmp_total).symm q k

equal : (o : Ordering) → is_eq o ≡ true → o ≡ Equal
equal Less e = absurd (true≢false (sym e))
equal Equal e = refl
equal Greater e = absurd (true≢false (sym e))

pub same_key : (q k : List ℕ) → ties q k ≡ true → q ≡ k
same_key q k tie = apart q k (equal _ tie)

less : (o : Ordering) → T (is_lt o) → o ≡ Less
less Less p = refl
less Equal p = absurd p
less Greater p = absurd p

first : (a b : Bool) → T (a && b) → T a
first true b p = tt
first false b p = p

second : (a b : Bool) → T (a && b) → T b
second true b p = p
second false b p = absurd p

none_there : {A : Type 0} (es : List A) → length es ≡ 0 → es ≡ []
none_there [] e = refl
none_there (x ∷ es) e = absurd (omega arith)

-- ---- a tree's entries as a finite map

module _ {X : Type 0} where
  pub same_at_each : (m n : TextMap X) → ((q : List ℕ) → get m q ≡ get n q) → m ≡ n
  same_at_each m n h = same_map nat_list_cmp_total apart m n h

  find_is : (q : List ℕ) (es : List (List ℕ × X)) → find by_bytes q es ≡ lookup (is_at (by_bytes q)) es
  find_is q [] = refl
  find_is q (e ∷ es) = ap (cond (ties q e.0) (Some e.1)) (find_is q es)

  -- what stands at a key
  pub seen_at : (m : BTreeMap (List ℕ) X) (q : List ℕ) → get (from_entries {R = by_bytes} m.entries) q ≡ tree.get by_bytes m q
  seen_at m q = get-from_entries nat_list_cmp_total m.entries q ∙ find_is q m.entries

  -- an entry that is put in
  pub seen_put : (m n : BTreeMap (List ℕ) X) (k : List ℕ) (v : X) → ((q : List ℕ) → tree.get by_bytes n q ≡ cond (ties k q) (Some v) (tree.get by_bytes m q)) → from_entries {R = by_bytes} n.entries ≡ insert (from_entries m.entries) k v
  seen_put m n k v h = same_at_each _ _ (λ q. seen_at n q ∙ h q ∙ (λ i. cond (ties_back k q i) (Some v) (sym (seen_at m q) i)) ∙ sym (get-insert nat_list_cmp_total (from_entries m.entries) k v q))

  -- an entry that is taken out
  pub seen_taken : (m n : BTreeMap (List ℕ) X) (k : List ℕ) → ((q : List ℕ) → tree.get by_bytes n q ≡ cond (ties k q) None (tree.get by_bytes m q)) → from_entries {R = by_bytes} n.entries ≡ remove (from_entries m.entries) k
  seen_taken m n k h = same_at_each _ _ (λ q. seen_at n q ∙ h q ∙ (λ i. cond (ties_back k q i) None (sym (seen_at m q) i)) ∙ sym (get-remove nat_list_cmp_total (from_entries m.entries) k q))

  -- ---- changes at a key

  -- a key that ties is the key
  pub at_tied : (m : TextMap X) (q k : List ℕ) → ties q k ≡ true → get m k ≡ get m q
  at_tied m q k t = get_tied nat_list_cmp_total m q k (equal _ t)

  pub get_put : (m : TextMap X) (k : List ℕ) (v : X) (q : List ℕ) → get (insert m k v) q ≡ cond (ties q k) (Some v) (get m q)
  get_put m k v q = get-insert nat_list_cmp_total m k v q

  pub get_taken : (m : TextMap X) (k q : List ℕ) → get (remove m k) q ≡ cond (ties q k) None (get m q)
  get_taken m k q = get-remove nat_list_cmp_total m k q

  pub get_put_itself : (m : TextMap X) (k : List ℕ) (v : X) → get (insert m k v) k ≡ Some v
  get_put_itself m k v = get_put m k v k ∙ ap (λ b. cond b (Some v) (get m k)) (ties_itself k)

  pub get_taken_itself : (m : TextMap X) (k : List ℕ) → get (remove m k) k ≡ None
  get_taken_itself m k = get_taken m k k ∙ ap (λ b. cond b None (get m k)) (ties_itself k)

  cond_same : (b : Bool) (x y : Option X) → (b ≡ true → x ≡ y) → cond b x y ≡ y
  cond_same true x y h = h refl
  cond_same false x y h = refl

  both_same : (b : Bool) (x y z : Option X) → (b ≡ true → x ≡ z) → cond b x (cond b y z) ≡ z
  both_same true x y z h = h refl
  both_same false x y z h = refl

  -- to take out what isn't there changes nothing
  pub taken_absent : (m : TextMap X) (k : List ℕ) → get m k ≡ None → remove m k ≡ m
  taken_absent m k none = same_at_each _ _ (λ q. get_taken m k q ∙ cond_same (ties q k) None (get m q) (λ t. sym none ∙ at_tied m q k t))

  -- what is taken out and put in again
  put_back : (m : TextMap X) (k : List ℕ) (v : X) → get m k ≡ Some v → insert (remove m k) k v ≡ m
  put_back m k v some = same_at_each _ _ (λ q. get_put (remove m k) k v q ∙ ap (cond (ties q k) (Some v)) (get_taken m k q) ∙ both_same (ties q k) (Some v) None (get m q) (λ t. sym some ∙ at_tied m q k t))

  -- ---- sums over the values

  put_is : (k : List ℕ) (v : X) (es : List (List ℕ × X)) → put by_bytes k v es ≡ insert_entry by_bytes es k v
  put_is k v [] = refl
  put_is k v (e ∷ es) =
      elim (by_bytes k e.0) as (λ o. by_order o ((k, v) ∷ e ∷ es) ((e.0, v) ∷ es) (e ∷ put by_bytes k v es) ≡ match_ordering o ((k, v) ∷ e ∷ es) ((e.0, v) ∷ es) (e ∷ insert_entry by_bytes es k v)) [
        | Less ↦ refl
        | Equal ↦ refl
        | Greater ↦ ap (λ rest. e ∷ rest) (put_is k v es)
      ]

  below_is : (k : List ℕ) (es : List (List ℕ × X)) → T (below_all by_bytes k es) → AllByRecursion (λ y. by_bytes k y ≡ Less) (keys_of es)
  below_is k [] h = tt
  below_is k (e ∷ es) h = (less _ (first _ _ h), below_is k es (second _ _ h))

  sorted_is : (es : List (List ℕ × X)) → T (is_sorted by_bytes es) → IsStrictlySortedBy by_bytes (keys_of es)
  unfolding IsStrictlySortedBy
  sorted_is [] h = tt
  sorted_is (e ∷ es) h = (below_is e.0 es (first _ _ h), sorted_is es (second _ _ h))

  -- the keys rise
  pub keys_rise : (m : TextMap X) → IsStrictlySortedBy by_bytes (keys m)
  keys_rise m = sorted_is (entries m) (entries_sorted m)

  -- ---- a tree's entries are the map's

  put_first : (e : List ℕ × X) (es : List (List ℕ × X)) → AllByRecursion (λ y. by_bytes e.0 y ≡ Less) (keys_of es) → put by_bytes e.0 e.1 es ≡ e ∷ es
  put_first e [] h = refl
  put_first e (f ∷ es) h = ap (λ o. by_order o (e ∷ f ∷ es) ((f.0, e.1) ∷ es) (f ∷ put by_bytes e.0 e.1 es)) h.0

  entries_seen : (es : List (List ℕ × X)) → IsStrictlySortedBy by_bytes (keys_of es) → entries (from_entries {R = by_bytes} es) ≡ es
  unfolding IsStrictlySortedBy
  entries_seen [] s = none_there (entries (empty {X = X} {R = by_bytes})) (sym (len-entries (empty {X = X} {R = by_bytes})) ∙ len-empty by_bytes X)
  entries_seen (e ∷ es) s = entries-insert nat_list_cmp_total (from_entries es) e.0 e.1 ∙ ap (put by_bytes e.0 e.1) (entries_seen es s.1) ∙ put_first e es s.0

  -- the keys of a tree
  pub keys_seen : (m : BTreeMap (List ℕ) X) → tree.IsOrdered by_bytes m → keys (from_entries {R = by_bytes} m.entries) ≡ tree.keys m
  keys_seen m s = ap (λ es. map (λ e. e.0) es) (entries_seen m.entries s)

  module _ (f : X → ℕ) where
    -- the weight of what stands at a key, or 0
    abbrev pub weight_at : TextMap X → List ℕ → ℕ
    weight_at m k = unwrap_or (option_map f (get m k)) 0

    pub sum_put : (m : TextMap X) (k : List ℕ) (v : X) → sum_by f (values (insert m k v)) + weight_at m k ≡ sum_by f (values m) + f v
    sum_put m k v =
        (λ i. sum_by f (values_of ((entries-insert nat_list_cmp_total m k v ∙ put_is k v (entries m)) i)) + unwrap_or (option_map f ((get-entries m k ∙ find_is k (entries m)) i)) 0)
        ∙ sum_by-insert_entry f nat_list_cmp_total (entries m) k v (keys_rise m)

    sum_taken_by : (m : TextMap X) (k : List ℕ) (r : Option X) → get m k ≡ r → sum_by f (values (remove m k)) + unwrap_or (option_map f r) 0 ≡ sum_by f (values m)
    sum_taken_by m k None is = ap (λ n. sum_by f (values n) + 0) (taken_absent m k is) ∙ omega arith
    sum_taken_by m k (Some v) is =
        let put = sum_put (remove m k) k v in
        let same = ap (λ n. sum_by f (values n)) (put_back m k v is) in
        let none = ap (λ r. unwrap_or (option_map f r) 0) (get_taken_itself m k) in
        omega (arith, put, same, none)

    pub sum_taken : (m : TextMap X) (k : List ℕ) → sum_by f (values (remove m k)) + weight_at m k ≡ sum_by f (values m)
    sum_taken m k = sum_taken_by m k (get m k) refl
