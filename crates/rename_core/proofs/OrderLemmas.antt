-- Tokens put in order: each once, ascending, and no others.
use Rattle.std.proofs.Common.{◌≡◌, Bool, true, false, ◌||◌, List, [], ◌∷◌, refl, sym, ap, ◌∙◌}
use Rattle.std.specs.BTreeSet.{insert_key}
use Rattle.std.specs.Cmp.{IsTotalOrder}
use Rattle.std.specs.Cmp.Lexicographic.{slice_cmp}
use Rattle.std.specs.declared.cmp.Ordering.{Ordering}
use Rattle.std.specs.declared.cmp.Ordering.TheVariants.{Less, Equal, Greater}
use Rattle.std.specs.List.{list_any, AllByRecursion}
use Rattle.std.specs.List.Sorted.{IsStrictlySortedBy}
use Rattle.std.specs.Ordering.{match_ordering, nat_cmp, ordering_reverse}
use Rattle.std.proofs.lemmas.Map.Lookups.{exact_pairs, exact_bytes, exact_unsigned}
use Rattle.tok_data.specs.declared.sources.TokId.{TokId}
use Rattle.tok_data.specs.contracts.sources.TokIdOrd.TheImpl.Laws.{total-law}
use Rattle.rename_core.specs.Classes.{tok_cmp}
use Rattle.rename_core.specs.Found.{in_order, put_all}
use Rattle.scope_tables.specs.Occurrences.{same_tok}
use Rattle.rename_core.specs.Occurrences.{in_class}

-- ---- insertions

module _ {K : Type 0} (R : K → K → Ordering) (o : IsTotalOrder R) where
  abbrev Below : K → List K → Type 0
  Below x ks = AllByRecursion (λ y. R x y ≡ Less) ks

  further : (k x : K) (xs : List K) → R k x ≡ Less → Below x xs → Below k xs
  further k x [] l below = tt
  further k x (y ∷ ys) l below = (o.trans k x y l below.0, further k x ys l below.1)

  by_rank : (P : List K → Type 0) (r : Ordering) (xs ys zs : List K) → (r ≡ Less → P xs) → (r ≡ Equal → P ys) → (r ≡ Greater → P zs) → P (match_ordering r xs ys zs)
  by_rank P Less xs ys zs a b c = a refl
  by_rank P Equal xs ys zs a b c = b refl
  by_rank P Greater xs ys zs a b c = c refl

  below_more : (x k : K) (ks : List K) → R x k ≡ Less → Below x ks → Below x (insert_key R ks k)
  below_more x k [] l below = (l, tt)
  below_more x k (y ∷ ys) l below =
      by_rank (Below x) (R k y) _ _ _ (λ _. (l, (below.0, below.1))) (λ _. (below.0, below.1)) (λ _. (below.0, below_more x k ys l below.1))

  pub sorted_more : (k : K) (ks : List K) → IsStrictlySortedBy R ks → IsStrictlySortedBy R (insert_key R ks k)
  unfolding IsStrictlySortedBy
  sorted_more k [] s = (tt, tt)
  sorted_more k (x ∷ xs) s =
      by_rank (IsStrictlySortedBy R) (R k x) _ _ _
      (λ l. ((l, further k x xs l s.0), (s.0, s.1)))
      (λ _. (s.0, s.1))
      (λ g. (below_more x k xs (o.antisymm x k ∙ ap ordering_reverse g) s.0, sorted_more k xs s.1))

  by_rank_is : (P : List K → Bool) (r : Ordering) (xs ys zs : List K) (b : Bool) → (r ≡ Less → P xs ≡ b) → (r ≡ Equal → P ys ≡ b) → (r ≡ Greater → P zs ≡ b) → P (match_ordering r xs ys zs) ≡ b
  by_rank_is P Less xs ys zs b f g h = f refl
  by_rank_is P Equal xs ys zs b f g h = g refl
  by_rank_is P Greater xs ys zs b f g h = h refl

  once : (a b c : Bool) → a ≡ b → b || c ≡ a || (b || c)
  once true b c e = ap (λ x. x || c) (sym e)
  once false b c e = refl

  third : (a b c : Bool) → b || (a || c) ≡ a || (b || c)
  third true true c = refl
  third true false c = refl
  third false b c = refl

  -- what a test finds in it, where the order tells all keys apart
  pub any_more : ((x y : K) → R x y ≡ Equal → x ≡ y) → (f : K → Bool) (k : K) (ks : List K) → list_any f (insert_key R ks k) ≡ (f k || list_any f ks)
  any_more exact f k [] = refl
  any_more exact f k (x ∷ xs) =
      by_rank_is (list_any f) (R k x) _ _ _ (f k || (f x || list_any f xs)) (λ _. refl) (λ e. once (f k) (f x) (list_any f xs) (ap f (exact k x e)))
      (λ _. ap (λ b. f x || b) (any_more exact f k xs) ∙ third (f k) (f x) (list_any f xs))

-- ---- tokens

pub tok_order : IsTotalOrder tok_cmp
tok_order = total-law

pub tok_cmp_exact : (s t : TokId) → tok_cmp s t ≡ Equal → s ≡ t
tok_cmp_exact s t e =
    let pairs : (s.file, s.at) ≡ (t.file, t.at) = exact_pairs (slice_cmp nat_cmp) nat_cmp exact_bytes exact_unsigned (s.file, s.at) (t.file, t.at) e in
    λ i. record { file = (pairs i).0; at = (pairs i).1 }

put_ordered : (ts kept : List TokId) → IsStrictlySortedBy tok_cmp kept → IsStrictlySortedBy tok_cmp (put_all kept ts)
put_ordered [] kept s = s
put_ordered (t ∷ ts) kept s = put_ordered ts (insert_key tok_cmp kept t) (sorted_more tok_cmp tok_order t kept s)

pub ordered : (ts : List TokId) → IsStrictlySortedBy tok_cmp (in_order ts)
unfolding IsStrictlySortedBy
ordered ts = put_ordered ts [] tt

or_turned : (a b c : Bool) → (a || b) || c ≡ b || (a || c)
or_turned true true c = refl
or_turned true false c = refl
or_turned false b c = refl

put_has : (ts kept : List TokId) (q : TokId) → in_class (put_all kept ts) q ≡ (in_class kept q || in_class ts q)
put_has [] kept q = last (in_class kept q)
  where
    last : (b : Bool) → b ≡ (b || false)
    last true = refl
    last false = refl
put_has (t ∷ ts) kept q =
    put_has ts (insert_key tok_cmp kept t) q
    ∙ ap (λ b. b || in_class ts q) (any_more tok_cmp tok_order tok_cmp_exact (same_tok q) t kept)
    ∙ or_turned (same_tok q t) (in_class kept q) (in_class ts q)

-- they are the same tokens
pub has_same : (ts : List TokId) (q : TokId) → in_class (in_order ts) q ≡ in_class ts q
has_same ts q = put_has ts [] q
