-- Sets of paths, as lists that rise: which paths are in one, and what a test leaves of it.
use Rattle.std.proofs.Common.{◌≡◌, ℕ, Bool, true, false, cond, T, List, [], ◌∷◌, ◌++◌, map, flat_map, ◌&&◌, ◌||◌, Option, Some, None, is_some, is_eq, is_lt, nat_cmp, Ordering, Less, Equal, Greater, if◌then◌else◌, sym, refl, ap, ◌∙◌, subst, true≢false}
use Rattle.std.specs.Cmp.Lexicographic.{slice_cmp, nat_list_cmp_total}
use Rattle.std.specs.FinMap.{get, contains_key, insert, keys, entries, empty, find, is_sorted, entries_sorted, get-empty, get-insert, contains_key-keys, slice_cmp-IsAntisymmetric, nat_cmp-IsAntisymmetric, IsAntisymmetric}
use Rattle.std.specs.FinMap.Entries.{below_all, where_key, is_sorted-where_key, find-where_key, is_some-find, same_entries}
use Rattle.std.specs.List.{list_any, filter}
use Rattle.std.specs.Ordering.{eq_by_cmp}
use Rattle.std.proofs.lemmas.List.Folds.{list_any-append}
use Rattle.doc_texts.specs.Texts.{TextMap, PathSet, Texts, OpenText, shown, text_at, add_all, marked, path_set, paths_of}

-- the order of paths by their bytes
abbrev pub by_bytes : List ℕ → List ℕ → Ordering
by_bytes = slice_cmp nat_cmp

-- two paths have the same bytes
abbrev pub ties : List ℕ → List ℕ → Bool
ties = eq_by_cmp by_bytes

pub apart : IsAntisymmetric by_bytes
apart = slice_cmp-IsAntisymmetric nat_cmp-IsAntisymmetric

equal : (o : Ordering) → is_eq o ≡ true → o ≡ Equal
equal Less e = absurd (true≢false (sym e))
equal Equal e = refl
equal Greater e = absurd (true≢false (sym e))

pub tied_is : (q k : List ℕ) → ties q k ≡ true → q ≡ k
tied_is q k t = apart q k (equal (by_bytes q k) t)

-- ---- lists that rise

-- paths with nothing at each
abbrev pub units : List (List ℕ) → List (List ℕ × Unit {0})
units [] = []
units (k ∷ ks) = (k, tt) ∷ units ks

abbrev pub Rise : List (List ℕ) → Type 0
Rise ks = T (is_sorted by_bytes (units ks))

module _ {X : Type 0} where
  below_units : (k : List ℕ) (es : List (List ℕ × X)) → below_all by_bytes k (units (map (λ e. e.0) es)) ≡ below_all by_bytes k es
  below_units k [] = refl
  below_units k (e ∷ es) = ap (λ b. is_lt (by_bytes k e.0) && b) (below_units k es)

  sorted_units : (es : List (List ℕ × X)) → is_sorted by_bytes (units (map (λ e. e.0) es)) ≡ is_sorted by_bytes es
  sorted_units [] = refl
  sorted_units (e ∷ es) = λ i. below_units e.0 es i && sorted_units es i

  pub keys_rise : (m : TextMap X) → Rise (keys m)
  keys_rise m = subst T (sym (sorted_units (entries m))) (entries_sorted m)

keys_of_units : (ks : List (List ℕ)) → map (λ e. e.0) (units ks) ≡ ks
keys_of_units [] = refl
keys_of_units (k ∷ ks) = ap (λ rest. k ∷ rest) (keys_of_units ks)

found_units : (q : List ℕ) (ks : List (List ℕ)) → is_some (find by_bytes q (units ks)) ≡ list_any (ties q) ks
found_units q ks = is_some-find by_bytes q (units ks) ∙ ap (list_any (ties q)) (keys_of_units ks)

same_units : (x y : Option (Unit {0})) → is_some x ≡ is_some y → x ≡ y
same_units None None e = refl
same_units None (Some u) e = absurd (true≢false (sym e))
same_units (Some u) None e = absurd (true≢false e)
same_units (Some u) (Some v) e = refl

kept : (b : Bool) (x y : Option (Unit {0})) → (b ≡ true → is_some x ≡ is_some y) → cond b x None ≡ cond b y None
kept true x y h = same_units x y (h refl)
kept false x y h = refl

module _ (test : List ℕ → Bool) where
  where_units : (ks : List (List ℕ)) → where_key by_bytes test (units ks) ≡ units (filter test ks)
  where_units [] = refl
  where_units (k ∷ ks) =
      elim (test k) as (λ b. cond b ((k, tt) ∷ where_key by_bytes test (units ks)) (where_key by_bytes test (units ks)) ≡ units (cond b (k ∷ filter test ks) (filter test ks))) [
        | true ↦ ap (λ rest. (k, tt) ∷ rest) (where_units ks)
        | false ↦ where_units ks
      ]

  found_where : (q : List ℕ) (ks : List (List ℕ)) → find by_bytes q (where_key by_bytes test (units ks)) ≡ cond (test q) (find by_bytes q (units ks)) None
  found_where q ks = find-where_key by_bytes test q (λ x t. ap test (sym (apart q x t))) (units ks)

  -- two lists that rise are left with the same paths where they have the same ones among those that pass
  pub same_filtered : (xs ys : List (List ℕ)) → Rise xs → Rise ys → ((q : List ℕ) → test q ≡ true → list_any (ties q) xs ≡ list_any (ties q) ys) → filter test xs ≡ filter test ys
  same_filtered xs ys rise_x rise_y alike =
      let left = where_key by_bytes test (units xs) in
      let right = where_key by_bytes test (units ys) in
      let found = λ (q : List ℕ). found_where q xs
      ∙ kept (test q) (find by_bytes q (units xs)) (find by_bytes q (units ys)) (λ passes. found_units q xs ∙ alike q passes ∙ sym (found_units q ys))
      ∙ sym (found_where q ys) in
      let left_rises = is_sorted-where_key by_bytes test (units xs) rise_x in
      let right_rises = is_sorted-where_key by_bytes test (units ys) rise_y in
      let same = same_entries by_bytes nat_list_cmp_total apart left right left_rises right_rises found in
      sym (keys_of_units (filter test xs)) ∙ ap (λ es. map (λ e. e.0) es) (sym (where_units xs) ∙ same ∙ where_units ys) ∙ keys_of_units (filter test ys)

-- ---- what is written for each of some paths

pub flat_map_tested : (test : List ℕ → Bool) (f : List ℕ → List ℕ) (ks : List (List ℕ)) → flat_map (λ k. if test k then f k else []) ks ≡ flat_map f (filter test ks)
flat_map_tested test f [] = refl
flat_map_tested test f (k ∷ ks) =
    elim (test k) as (λ b. cond b (f k) [] ++ flat_map (λ k. if test k then f k else []) ks ≡ flat_map f (cond b (k ∷ filter test ks) (filter test ks))) [
      | true ↦ ap (λ rest. f k ++ rest) (flat_map_tested test f ks)
      | false ↦ flat_map_tested test f ks
    ]

-- ---- which paths are in a set

some_or : {X : Type 0} (b : Bool) (x : X) (o : Option X) → is_some (cond b (Some x) o) ≡ (b || is_some o)
some_or true x o = refl
some_or false x o = refl

pub or_none : (b : Bool) → b ≡ (b || false)
or_none true = refl
or_none false = refl

pub swap_or : (a b c : Bool) → ((a || b) || c) ≡ (b || (a || c))
swap_or true true c = refl
swap_or true false c = refl
swap_or false b c = refl

-- a key that is put in
pub has_put : {X : Type 0} (m : TextMap X) (k : List ℕ) (x : X) (q : List ℕ) → contains_key (insert m k x) q ≡ (ties q k || contains_key m q)
has_put m k x q = ap is_some (get-insert nat_list_cmp_total m k x q) ∙ some_or (ties q k) x (get m q)

has_added : (set : PathSet) (paths : List (List ℕ)) (q : List ℕ) → contains_key (add_all set paths) q ≡ (contains_key set q || list_any (ties q) paths)
has_added set [] q = or_none (contains_key set q)
has_added set (p ∷ paths) q =
    has_added (insert set p tt) paths q
    ∙ ap (λ b. b || list_any (ties q) paths) (has_put set p tt q)
    ∙ swap_or (ties q p) (contains_key set q) (list_any (ties q) paths)

-- a path is in the set of some paths exactly where it is one of them
pub is_in_set : (paths : List (List ℕ)) (q : List ℕ) → list_any (ties q) (path_set paths) ≡ list_any (ties q) paths
is_in_set paths q = sym (contains_key-keys (marked paths) q) ∙ has_added empty paths q ∙ ap (λ o. is_some o || list_any (ties q) paths) (get-empty by_bytes q)

either : (document : Option OpenText) (text : Option (List ℕ)) → (is_some text || is_some document) ≡ is_some (shown document text)
either None None = refl
either None (Some text) = refl
either (Some document) None = refl
either (Some document) (Some text) = refl

-- a path is among those of the texts exactly where it has a text
pub has_path : (t : Texts) (q : List ℕ) → list_any (ties q) (paths_of t) ≡ is_some (text_at t q)
unfolding paths_of text_at
has_path t q =
    is_in_set (keys t.disk ++ keys t.opened) q
    ∙ list_any-append (ties q) (keys t.disk) (keys t.opened)
    ∙ (λ i. sym (contains_key-keys t.disk q) i || sym (contains_key-keys t.opened q) i)
    ∙ either (get t.opened q) (get t.disk q)

-- and among those that may have news where something is kept for it, or it has a text
pub has_kept : (prior : TextMap (Option (List ℕ))) (now : Texts) (q : List ℕ) → list_any (ties q) (keys (add_all (marked (keys prior)) (paths_of now))) ≡ (is_some (get prior q) || is_some (text_at now q))
has_kept prior now q =
    sym (contains_key-keys (add_all (marked (keys prior)) (paths_of now)) q) ∙ has_added (marked (keys prior)) (paths_of now) q
    ∙ (λ i. (contains_key-keys (marked (keys prior)) q ∙ is_in_set (keys prior) q ∙ sym (contains_key-keys prior q)) i || has_path now q i)

-- and among those of two moments where it has one at either
pub has_path_of_two : (start now : Texts) (q : List ℕ) → list_any (ties q) (path_set (paths_of start ++ paths_of now)) ≡ (is_some (text_at start q) || is_some (text_at now q))
has_path_of_two start now q =
    is_in_set (paths_of start ++ paths_of now) q
    ∙ list_any-append (ties q) (paths_of start) (paths_of now)
    ∙ (λ i. has_path start q i || has_path now q i)
