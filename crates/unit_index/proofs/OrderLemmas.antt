-- An ascending list of tokens is known by what it has.
use Rattle.std.proofs.Common.{arith, ◌≡◌, ◌<◌, length, Bool, true, false, ◌||◌, List, [], ◌∷◌, refl, sym, ap, ◌∙◌}
use Rattle.std.specs.Prelude.{if◌then◌else◌}
use Rattle.std.specs.BTreeSet.{BTreeSet, insert_key}
use Rattle.std.specs.BTreeSet as sorted
use Rattle.std.specs.Cmp.{IsTotalOrder}
use Rattle.std.specs.declared.cmp.Ordering.{Ordering}
use Rattle.std.specs.declared.cmp.Ordering.TheVariants.{Less, Equal, Greater}
use Rattle.std.specs.List.{list_any, AllByRecursion}
use Rattle.std.specs.List.Sorted.{IsStrictlySortedBy}
use Rattle.std.specs.Ordering.{is_eq, match_ordering, ordering_reverse}
use Rattle.std.specs.Cmp.Lexicographic.{slice_cmp}
use Rattle.std.specs.Ordering.{nat_cmp}
use Rattle.std.proofs.lemmas.Map.Lookups.{btree_set_from_contains, exact_pairs, exact_bytes, exact_unsigned}
use Rattle.tok_data.specs.declared.sources.TokId.{TokId}
use Rattle.tok_data.specs.contracts.sources.TokIdOrd.TheImpl.Laws.{total-law}
use Rattle.scope_tables.specs.Occurrences.{same_tok}
use Rattle.unit_index.specs.Sets.{has_tok}
use Rattle.unit_index.specs.Tokens.{tok_cmp, in_order}
use Rattle.unit_index.proofs.WalkLemmas.{tok_exact}

-- ---- insertions

module _ {K : Type 0} (R : K → K → Ordering) (o : IsTotalOrder R) where
  abbrev Below : K → List K → Type 0
  Below x ks = AllByRecursion (λ y. R x y ≡ Less) ks

  further : (k x : K) (xs : List K) → R k x ≡ Less → Below x xs → Below k xs
  further k x [] l below = tt
  further k x (y ∷ ys) l below = (o.trans k x y l below.0, further k x ys l below.1)

  by_rank : (P : List K → Type 0) (r : Ordering) (xs ys zs : List K) → (r ≡ Less → P xs) → (r ≡ Equal → P ys) → (r ≡ Greater → P zs) → P (match_ordering r xs ys zs)
  by_rank P Less xs ys zs a b c = a refl
  by_rank P Equal xs ys zs a b c = b refl
  by_rank P Greater xs ys zs a b c = c refl

  below_more : (x k : K) (ks : List K) → R x k ≡ Less → Below x ks → Below x (insert_key R ks k)
  below_more x k [] l below = (l, tt)
  below_more x k (y ∷ ys) l below =
      by_rank (Below x) (R k y) _ _ _ (λ _. (l, (below.0, below.1))) (λ _. (below.0, below.1)) (λ _. (below.0, below_more x k ys l below.1))

  pub sorted_more : (k : K) (ks : List K) → IsStrictlySortedBy R ks → IsStrictlySortedBy R (insert_key R ks k)
  unfolding IsStrictlySortedBy
  sorted_more k [] s = (tt, tt)
  sorted_more k (x ∷ xs) s =
      by_rank (IsStrictlySortedBy R) (R k x) _ _ _
      (λ l. ((l, further k x xs l s.0), (s.0, s.1)))
      (λ _. (s.0, s.1))
      (λ g. (below_more x k xs (o.antisymm x k ∙ ap ordering_reverse g) s.0, sorted_more k xs s.1))

  by_rank_is : (P : List K → Bool) (r : Ordering) (xs ys zs : List K) (b : Bool) → (r ≡ Less → P xs ≡ b) → (r ≡ Equal → P ys ≡ b) → (r ≡ Greater → P zs ≡ b) → P (match_ordering r xs ys zs) ≡ b
  by_rank_is P Less xs ys zs b f g h = f refl
  by_rank_is P Equal xs ys zs b f g h = g refl
  by_rank_is P Greater xs ys zs b f g h = h refl

  once : (a b c : Bool) → a ≡ b → b || c ≡ a || (b || c)
  once true b c e = ap (λ x. x || c) (sym e)
  once false b c e = refl

  third : (a b c : Bool) → b || (a || c) ≡ a || (b || c)
  third true true c = refl
  third true false c = refl
  third false b c = refl

  -- what a test finds in it, where the order tells all keys apart
  pub any_more : ((x y : K) → R x y ≡ Equal → x ≡ y) → (f : K → Bool) (k : K) (ks : List K) → list_any f (insert_key R ks k) ≡ (f k || list_any f ks)
  any_more exact f k [] = refl
  any_more exact f k (x ∷ xs) =
      by_rank_is (list_any f) (R k x) _ _ _ (f k || (f x || list_any f xs)) (λ _. refl) (λ e. once (f k) (f x) (list_any f xs) (ap f (exact k x e)))
      (λ _. ap (λ b. f x || b) (any_more exact f k xs) ∙ third (f k) (f x) (list_any f xs))

-- ---- tokens

tok_order : IsTotalOrder tok_cmp
tok_order = total-law

pub tok_cmp_exact : (s t : TokId) → tok_cmp s t ≡ Equal → s ≡ t
tok_cmp_exact s t e =
    let pairs : (s.file, s.at) ≡ (t.file, t.at) = exact_pairs (slice_cmp nat_cmp) nat_cmp exact_bytes exact_unsigned (s.file, s.at) (t.file, t.at) e in
    λ i. record { file = (pairs i).0; at = (pairs i).1 }

balanced : (r : Ordering) → r ≡ ordering_reverse r → r ≡ Equal
balanced Less e = cc e
balanced Equal e = refl
balanced Greater e = cc e

itself : (t : TokId) → tok_cmp t t ≡ Equal
itself t = balanced (tok_cmp t t) (tok_order.antisymm t t)

equal : (r : Ordering) → is_eq r ≡ true → r ≡ Equal
equal Less e = absurd (cc e)
equal Equal e = refl
equal Greater e = absurd (cc e)

same_bool : (a b : Bool) → (a ≡ true → b ≡ true) → (b ≡ true → a ≡ true) → a ≡ b
same_bool true b f g = sym (f refl)
same_bool false true f g = g refl
same_bool false false f g = refl

pub eq_is : (q t : TokId) → is_eq (tok_cmp q t) ≡ same_tok t q
eq_is q t =
    same_bool (is_eq (tok_cmp q t)) (same_tok t q)
    (λ e. (tok_exact t q).1 (sym (tok_cmp_exact q t (equal (tok_cmp q t) e))))
    (λ e. ap is_eq (ap (tok_cmp q) ((tok_exact t q).0 e) ∙ itself q))

pub ordered : (ts : List TokId) → IsStrictlySortedBy tok_cmp (in_order ts)
unfolding IsStrictlySortedBy
ordered [] = tt
ordered (t ∷ ts) = sorted_more tok_cmp tok_order t (in_order ts) (ordered ts)

has_them : (q : TokId) (ts : List TokId) → list_any (λ k. is_eq (tok_cmp q k)) (in_order ts) ≡ list_any (λ x. same_tok x q) ts
has_them q [] = refl
has_them q (t ∷ ts) =
    any_more tok_cmp tok_order tok_cmp_exact (λ k. is_eq (tok_cmp q k)) t (in_order ts) ∙ (λ i. eq_is q t i || has_them q ts i)

-- a set with these tokens has them in order
pub keys_are : (set : BTreeSet TokId) (ts : List TokId) → sorted.IsOrdered tok_cmp set → ((q : TokId) → has_tok set q ≡ list_any (λ x. same_tok x q) ts) → set.keys ≡ in_order ts
unfolding has_tok
keys_are set ts order same = btree_set_from_contains tok_order set (record { keys = in_order ts }) order (ordered ts) (λ q. same q ∙ sym (has_them q ts)) tok_cmp_exact

either : (b c : Bool) → (if b then true else c) ≡ (c || b)
either true true = refl
either true false = refl
either false true = refl
either false false = refl

pub eq_was : (q t : TokId) → is_eq (tok_cmp q t) ≡ same_tok q t
eq_was q t =
    same_bool (is_eq (tok_cmp q t)) (same_tok q t)
    (λ e. (tok_exact q t).1 (tok_cmp_exact q t (equal (tok_cmp q t) e)))
    (λ e. ap is_eq (ap (tok_cmp q) (sym ((tok_exact q t).0 e)) ∙ itself q))

-- one token more
pub added : (m n : BTreeSet TokId) (k q : TokId) → sorted.Updates tok_cmp m n k true → has_tok n q ≡ (has_tok m q || same_tok k q)
unfolding has_tok
added m n k q u = u.0 q ∙ ap (λ b. if b then true else sorted.contains tok_cmp m q) (eq_was k q) ∙ either (same_tok k q) (sorted.contains tok_cmp m q)

pub none_left : {A : Type 0} (xs : List A) → (0 < length xs → false ≡ true) → xs ≡ []
none_left [] h = refl
none_left (x ∷ xs) h = absurd (cc (h (omega arith)))
