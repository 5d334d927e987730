-- Units that were kept, path by path.
use Rattle.std.proofs.Common.{◌≡◌, ℕ, zero, suc, Bool, true, false, cond, ◌||◌, List, [], ◌∷◌, take, length, map, Option, Some, None, is_eq, bytes_eq, Less, refl, sym, ap, ◌∙◌, subst, true≢false, arith}
use Rattle.std.proofs.Math.Bool.{or_assoc}
use Rattle.std.specs.BTreeMap as tree
use Rattle.std.specs.BTreeMap.{BTreeMap, is_at}
use Rattle.std.specs.Cmp.Lexicographic.{slice_cmp}
use Rattle.std.specs.List.{filter, list_any, AllByRecursion}
use Rattle.std.specs.List.Sorted.{IsStrictlySortedBy}
use Rattle.std.specs.Ordering.{nat_cmp}
use Rattle.std.proofs.lemmas.List.Kept.{IsStrictlySortedBy-filter}
use Rattle.std.proofs.lemmas.Map.Keys.{sorted_head, sorted_tail}
use Rattle.std.proofs.lemmas.Map.Text.{is_eq-slice_cmp}
use Rattle.std.proofs.lemmas.Slice.Eq.{bytes_eq-Decides}
use Rattle.doc_texts.specs.Texts.{Texts, paths_of}
use Rattle.plain_mean.specs.Renewed.{IsGrounds}
use Rattle.plain_mean.specs.Shown.{is_unit_of, most_units, units}
use Rattle.plain_mean.specs.declared.types.Grounds.{Grounds}
use Rattle.project_conf.specs.declared.conf.Conf.{Conf}
use Rattle.unit_index.specs.Known.{Known}
use Rattle.c_session.specs.Kept.{AreGrounds}
use Rattle.c_session.specs.Renewal.{AreApart, held_as, held_of}
use Rattle.c_session.specs.Units.{known, known_unit}
use Rattle.c_session.specs.declared.held.HeldUnit.{HeldUnit}

-- ---- paths

pub same : (a : List ℕ) → bytes_eq a a ≡ true
same a = (bytes_eq-Decides a a).1 refl

bytes_by : (a b : List ℕ) (x y : Bool) → bytes_eq a b ≡ x → bytes_eq b a ≡ y → x ≡ y
bytes_by a b true true e f = refl
bytes_by a b false false e f = refl
bytes_by a b true false e f = sym ((bytes_eq-Decides b a).1 (sym ((bytes_eq-Decides a b).0 e))) ∙ f
bytes_by a b false true e f = sym e ∙ (bytes_eq-Decides a b).1 (sym ((bytes_eq-Decides b a).0 f))

bytes_back : (a b : List ℕ) → bytes_eq a b ≡ bytes_eq b a
bytes_back a b = bytes_by a b (bytes_eq a b) (bytes_eq b a) refl refl

-- two paths have the same bytes
ties : (k q : List ℕ) → is_eq (slice_cmp nat_cmp k q) ≡ bytes_eq q k
ties k q = is_eq-slice_cmp k q ∙ bytes_back k q

left_false : (a b : Bool) → (a || b) ≡ false → a ≡ false
left_false true b h = h
left_false false b h = refl

right_false : (a b : Bool) → (a || b) ≡ false → b ≡ false
right_false true b h = absurd (true≢false h)
right_false false b h = h

both_false : (a b : Bool) → a ≡ false → b ≡ false → (a || b) ≡ false
both_false a b none nothing = ap (λ x. x || b) none ∙ nothing

-- ---- a map

module _ {X : Type 0} (m n : BTreeMap (List ℕ) X) (k : List ℕ) (w : Option X)
    (h : (q : List ℕ) → tree.get (slice_cmp nat_cmp) n q ≡ cond (is_at (slice_cmp nat_cmp k) q) w (tree.get (slice_cmp nat_cmp) m q)) where
  -- what stands at a key behind an update
  pub updated : (q : List ℕ) → tree.get (slice_cmp nat_cmp) n q ≡ cond (bytes_eq q k) w (tree.get (slice_cmp nat_cmp) m q)
  updated q = h q ∙ ap (λ b. cond b w (tree.get (slice_cmp nat_cmp) m q)) (ties k q)

  pub elsewhere : (q : List ℕ) → bytes_eq q k ≡ false → tree.get (slice_cmp nat_cmp) n q ≡ tree.get (slice_cmp nat_cmp) m q
  elsewhere q apart = updated q ∙ ap (λ b. cond b w (tree.get (slice_cmp nat_cmp) m q)) apart

-- one unit more was put in
pub held_more : (rest : List Known) (left left' : List Grounds) (u : Known) (behind : List Known) (g : Grounds) (old new : Option HeldUnit) (q : List ℕ) (all : Option HeldUnit) →
    rest ≡ u ∷ behind → left ≡ g ∷ left' → new ≡ cond (bytes_eq q u.path) (Some (held_as u g)) old → held_of rest left q old ≡ all → held_of behind left' q new ≡ all
held_more rest left left' u behind g old new q all first one put before =
    ap (held_of behind left' q) put ∙ sym (λ i. held_of (first i) (one i) q old) ∙ before

-- no grounds are left, or no units
pub held_ends : (rest : List Known) (left : List Grounds) (q : List ℕ) (held all : Option HeldUnit) → length left ≡ 0 → held_of rest left q held ≡ all → held ≡ all
held_ends [] left q held all none before = before
held_ends (u ∷ rest) [] q held all none before = before
held_ends (u ∷ rest) (g ∷ left) q held all none before = absurd (omega (arith, none))

-- ---- paths that come once

apart_by : (k : List ℕ) (ks : List (List ℕ)) → AllByRecursion (λ y. slice_cmp nat_cmp k y ≡ Less) ks → list_any (bytes_eq k) ks ≡ false
apart_by k [] below = refl
apart_by k (y ∷ ys) below = both_false (bytes_eq k y) (list_any (bytes_eq k) ys) (sym (is_eq-slice_cmp k y) ∙ ap is_eq below.0) (apart_by k ys below.1)

sorted_apart : (ks : List (List ℕ)) → IsStrictlySortedBy (slice_cmp nat_cmp) ks → AreApart ks
sorted_apart [] rise = tt
sorted_apart (k ∷ ks) rise = (apart_by k ks (sorted_head (slice_cmp nat_cmp) k ks rise), sorted_apart ks (sorted_tail (slice_cmp nat_cmp) k ks rise))

none_taken : (n : ℕ) (k : List ℕ) (ks : List (List ℕ)) → list_any (bytes_eq k) ks ≡ false → list_any (bytes_eq k) (take n ks) ≡ false
none_taken zero k ks none = refl
none_taken (suc n) k [] none = refl
none_taken (suc n) k (y ∷ ys) none =
    both_false (bytes_eq k y) (list_any (bytes_eq k) (take n ys)) (left_false (bytes_eq k y) (list_any (bytes_eq k) ys) none) (none_taken n k ys (right_false (bytes_eq k y) (list_any (bytes_eq k) ys) none))

taken_apart : (n : ℕ) (ks : List (List ℕ)) → AreApart ks → AreApart (take n ks)
taken_apart zero ks apart = tt
taken_apart (suc n) [] apart = tt
taken_apart (suc n) (k ∷ ks) apart = (none_taken n k ks apart.0, taken_apart n ks apart.1)

-- no unit of the texts comes twice
pub units_apart : (t : Texts) (c : Conf) (paths : List (List ℕ)) → IsStrictlySortedBy (slice_cmp nat_cmp) (paths_of t) → paths ≡ units t c → AreApart paths
unfolding units
units_apart t c paths rise are =
    subst AreApart (sym are) (taken_apart most_units (filter (is_unit_of t c) (paths_of t)) (sorted_apart (filter (is_unit_of t c) (paths_of t)) (IsStrictlySortedBy-filter (slice_cmp nat_cmp) (is_unit_of t c) (paths_of t) rise)))

-- a path of the rest isn't the one that was taken in front of it
pub is_apart : (p : List ℕ) (ps : List (List ℕ)) (q : List ℕ) (is : Bool) → bytes_eq q p ≡ is → AreApart (p ∷ ps) → list_any (bytes_eq q) ps ≡ true → is ≡ false
is_apart p ps q false e apart among = refl
is_apart p ps q true e apart among = sym among ∙ ap (λ x. list_any (bytes_eq x) ps) ((bytes_eq-Decides q p).0 e) ∙ apart.0

-- ---- what was kept of the texts before

pub or_true : (b : Bool) → true ≡ (b || true)
or_true true = refl
or_true false = refl

or_none : (b : Bool) → b ≡ (b || false)
or_none true = refl
or_none false = refl

module _ (t : Texts) (c : Conf) where
  -- a unit of the texts, with what it meant and on what that rested
  pub record WasUnit (among : Bool) (path : List ℕ) (held : HeldUnit) : Type 0 where
    pub is : among ≡ true
    pub meant : held.unit ≡ known_unit t c path
    pub rested : IsGrounds t c path held.grounds

  -- what is kept of a path, where that is kept of the units alone
  abbrev pub WasHeld : Bool → List ℕ → Option HeldUnit → Type 0
  WasHeld among path None = among ≡ false
  WasHeld among path (Some held) = WasUnit among path held

  one_more : (among is : Bool) (q p : List ℕ) (g : Grounds) (held : Option HeldUnit) → bytes_eq q p ≡ is → WasHeld among q held → IsGrounds t c p g →
      WasHeld (among || is) q (cond is (Some (held_as (known_unit t c p) g)) held)
  one_more among false q p g held e before rests = subst (λ b. WasHeld b q held) (or_none among) before
  one_more among true q p g held e before rests =
      let at : p ≡ q = sym ((bytes_eq-Decides q p).0 e) in
      record { is = sym (or_true among); meant = ap (known_unit t c) at; rested = subst (λ x. IsGrounds t c x g) at rests }

  all_held : (ps : List (List ℕ)) (gs : List Grounds) (among : Bool) (q : List ℕ) (held : Option HeldUnit) → AreGrounds t c ps gs → WasHeld among q held →
      WasHeld (among || list_any (bytes_eq q) ps) q (held_of (map (known_unit t c) ps) gs q held)
  all_held [] [] among q held are before = subst (λ b. WasHeld b q held) (or_none among) before
  all_held [] (g ∷ gs) among q held are before = absurd are
  all_held (p ∷ ps) [] among q held are before = absurd are
  all_held (p ∷ ps) (g ∷ gs) among q held are before =
      subst (λ b. WasHeld b q (held_of (map (known_unit t c) ps) gs q (cond (bytes_eq q p) (Some (held_as (known_unit t c p) g)) held))) (or_assoc among (bytes_eq q p) (list_any (bytes_eq q) ps))
      (all_held ps gs (among || bytes_eq q p) q (cond (bytes_eq q p) (Some (held_as (known_unit t c p) g)) held) are.1 (one_more among (bytes_eq q p) q p g held refl before are.0))

  pub held_was : (us : List Known) (gs : List Grounds) (q : List ℕ) (held : Option HeldUnit) → us ≡ known t c → AreGrounds t c (units t c) gs → held ≡ held_of us gs q None →
      WasHeld (list_any (bytes_eq q) (units t c)) q held
  unfolding known
  held_was us gs q held is are kept =
      subst (λ o. WasHeld (list_any (bytes_eq q) (units t c)) q o) (sym (kept ∙ ap (λ x. held_of x gs q None) is)) (all_held (units t c) gs false q None are refl)
