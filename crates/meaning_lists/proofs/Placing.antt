-- A map by token and number is a list in the order of tokens: a new number is greater than all that are there.
use Rattle.std.proofs.Common.{arith, ◌≡◌, ℕ, ◌+◌, ◌<◌, length, Bool, true, false, cond, nat_lt, ◌==◌, List, [], ◌∷◌, ◌++◌, map, refl, sym, ap, subst, ◌∙◌}
use Rattle.std.specs.BTreeMap.{insert_entry}
use Rattle.std.specs.Map.{values_of}
use Rattle.std.specs.declared.cmp.Ordering.{Ordering}
use Rattle.std.specs.declared.cmp.Ordering.TheVariants.{Less, Equal, Greater}
use Rattle.std.specs.Ordering.{match_ordering, nat_cmp, ordering_then}
use Rattle.meaning_lists.specs.Order.{all_put, by_place, put}

by_tests : (p q r s : Bool) → r ≡ false → s ≡ false → ordering_then (cond p Less (cond q Equal Greater)) (cond r Less (cond s Equal Greater)) ≡ cond p Less Greater
by_tests true q r s h k = refl
by_tests false false r s h k = refl
by_tests false true r s h k = ap (λ x. cond x Less (cond s Equal Greater)) h ∙ ap (λ x. cond x Equal Greater) k

-- what is newer stands behind what has the same token
ranks : (a b m n : ℕ) → m < n → ordering_then (nat_cmp a b) (nat_cmp n m) ≡ cond (nat_lt a b) Less Greater
ranks a b m n h = by_tests (nat_lt a b) (a == b) (nat_lt n m) (n == m) (grind arith) (grind arith)

abbrev Key : Type 0
Key = ℕ × ℕ

abbrev key_cmp : Key → Key → Ordering
key_cmp x y = ordering_then (nat_cmp x.0 y.0) (nat_cmp x.1 y.1)

module _ {A : Type 0} where
  abbrev shown_one : Key × A → ℕ × A
  shown_one e = (e.0.0, e.1)

  abbrev pub shown : List (Key × A) → List (ℕ × A)
  shown es = map shown_one es

  -- all numbers are below n
  abbrev pub AreBelow : ℕ → List (Key × A) → Type 0
  AreBelow n [] = Unit {0}
  AreBelow n (e ∷ es) = (e.0.1 < n) × AreBelow n es

  pub below_more : (n : ℕ) (es : List (Key × A)) → AreBelow n es → AreBelow (n + 1) es
  below_more n [] h = tt
  below_more n (e ∷ es) h = (omega (arith, h.0), below_more n es h.1)

  by_less : (P : List (Key × A) → Type 0) (b : Bool) (xs ys zs : List (Key × A)) → P xs → P zs → P (match_ordering (cond b Less Greater) xs ys zs)
  by_less P true xs ys zs f g = f
  by_less P false xs ys zs f g = g

  by_rank : (P : List (Key × A) → Type 0) (b : Bool) (r : Ordering) (xs ys zs : List (Key × A)) → r ≡ cond b Less Greater → P xs → P zs → P (match_ordering r xs ys zs)
  by_rank P b r xs ys zs e f g = subst (λ o. P (match_ordering o xs ys zs)) (sym e) (by_less P b xs ys zs f g)

  shown_by : (b : Bool) (r : Ordering) (xs ys zs : List (Key × A)) (us vs : List (ℕ × A)) → r ≡ cond b Less Greater → shown xs ≡ us → shown zs ≡ vs →
      shown (match_ordering r xs ys zs) ≡ cond b us vs
  shown_by true r xs ys zs us vs e f g = ap (λ o. shown (match_ordering o xs ys zs)) e ∙ f
  shown_by false r xs ys zs us vs e f g = ap (λ o. shown (match_ordering o xs ys zs)) e ∙ g

  module _ (a n : ℕ) (x : A) where
    abbrev more : List (Key × A) → List (Key × A)
    more es = insert_entry key_cmp es (a, n) x

    pub shown_more : (es : List (Key × A)) → AreBelow n es → shown (more es) ≡ put (a, x) (shown es)
    shown_more [] h = refl
    shown_more (e ∷ es) h =
        shown_by (nat_lt a e.0.0) (key_cmp (a, n) e.0) (((a, n), x) ∷ e ∷ es) ((e.0, x) ∷ es) (e ∷ more es) ((a, x) ∷ shown_one e ∷ shown es) (shown_one e ∷ put (a, x) (shown es))
        (ranks a e.0.0 e.0.1 n h.0) refl (ap (λ xs. shown_one e ∷ xs) (shown_more es h.1))

    pub below_next : (es : List (Key × A)) → AreBelow n es → AreBelow (n + 1) (more es)
    below_next [] h = (omega arith, tt)
    below_next (e ∷ es) h =
        by_rank (AreBelow (n + 1)) (nat_lt a e.0.0) (key_cmp (a, n) e.0) (((a, n), x) ∷ e ∷ es) ((e.0, x) ∷ es) (e ∷ more es) (ranks a e.0.0 e.0.1 n h.0)
        (omega arith, below_more n (e ∷ es) h) (omega (arith, h.0), below_next es h.1)

    pub longer : (es : List (Key × A)) → AreBelow n es → length (more es) ≡ length es + 1
    longer [] h = refl
    longer (e ∷ es) h =
        by_rank (λ xs. length xs ≡ length (e ∷ es) + 1) (nat_lt a e.0.0) (key_cmp (a, n) e.0) (((a, n), x) ∷ e ∷ es) ((e.0, x) ∷ es) (e ∷ more es) (ranks a e.0.0 e.0.1 n h.0)
        (omega arith) (omega (arith, longer es h.1))

  -- what is placed so far, of all
  pub record IsPlaced (es : List (Key × A)) (rest all : List (ℕ × A)) : Type 0 where
    pub same : all_put (shown es) rest ≡ all_put [] all
    pub below : AreBelow (length es) es

  pub placed_none : (all : List (ℕ × A)) → IsPlaced [] all all
  placed_none all = record { same = refl; below = tt }

  pub placed_next : (es now : List (Key × A)) (p : ℕ × A) (rest all : List (ℕ × A)) (n : ℕ) → IsPlaced es (p ∷ rest) all → n ≡ length es →
      now ≡ insert_entry key_cmp es (p.0, n) p.1 → IsPlaced now rest all
  placed_next es now p rest all n k en e =
      let under : AreBelow n es = subst (λ m. AreBelow m es) (sym en) k.below in
      let size : length now ≡ n + 1 = ap length e ∙ longer p.0 n p.1 es under ∙ ap (λ m. m + 1) (sym en) in
      record {
        same = ap (λ xs. all_put xs rest) (ap shown e ∙ shown_more p.0 n p.1 es under) ∙ k.same;
        below = subst (λ xs. AreBelow (length xs) xs) (sym e) (subst (λ m. AreBelow m (insert_entry key_cmp es (p.0, n) p.1)) (sym (ap length (sym e) ∙ size)) (below_next p.0 n p.1 es under));
      }

  values_shown : (es : List (Key × A)) → values_of es ≡ map (λ p. p.1) (shown es)
  values_shown [] = refl
  values_shown (e ∷ es) = ap (λ xs. e.1 ∷ xs) (values_shown es)

  pub placed_all : (es : List (Key × A)) (all : List (ℕ × A)) → IsPlaced es [] all → values_of es ≡ by_place all
  placed_all es all k = values_shown es ∙ ap (λ ps. map (λ p. p.1) ps) k.same
