-- The ranges of tokens that stand in order stand in their text in order and apart.
use Rattle.std.proofs.Common.{◌≡◌, ◌≤◌, ◌<◌, ℕ, zero, suc, ◌+◌, Bool, true, false, List, [], ◌∷◌, cond, map, filter, Option, Some, None, option_map, slice_get, unwrap_or, bytes_eq, refl, sym, ap, subst, ◌∙◌, arith, Ordering, Less, Equal, Greater, nat_cmp}
use Rattle.std.specs.Cmp.Lexicographic.{slice_cmp}
use Rattle.std.specs.List.{AllByRecursion, cons_option, filter_map}
use Rattle.std.specs.List.Sorted.{IsStrictlySortedBy}
use Rattle.std.specs.Ordering.{ordering_reverse, ordering_then}
use Rattle.std.proofs.lemmas.Cmp.{nat_list_cmp_total, ranked}
use Rattle.std.proofs.lemmas.Slice.Eq.{bytes_eq-Decides}
use Rattle.c_tokens.specs.Lexed.{lexed}
use Rattle.doc_texts.specs.Edited.{Stand}
use Rattle.doc_texts.specs.Texts.{Texts}
use Rattle.plain_mean.specs.Given.{text_in}
use Rattle.plain_mean.specs.Ranges.{is_in, numbers_in, paths_in, range_at, range_by, ranges_at_path, ranges_of, tok_cmp}
use Rattle.tok_data.specs.declared.sources.TokId.{TokId}
use Rattle.c_session.specs.ReadBack.{AreUtf8, StandIn}
use Rattle.c_session.proofs.Named.{AreOrdered}
use Rattle.c_session.proofs.ReadBack.{one_named, own}
use Rattle.c_session.proofs.TokenPlaces.{EndsNamed, all_named, all_ordered}

-- ---- numbers that rise

abbrev Ascend : ℕ → List ℕ → Type 0
Ascend low [] = Unit {0}
Ascend low (n ∷ ns) = (low ≤ n) × Ascend (n + 1) ns

balanced : (r : Ordering) → r ≡ ordering_reverse r → r ≡ Equal
balanced Less e = absurd (let bad : ⊥ = cc e in bad)
balanced Equal e = refl
balanced Greater e = absurd (let bad : ⊥ = cc e in bad)

below : (s t : TokId) → tok_cmp s t ≡ Less → s.file ≡ t.file → s.at < t.at
below s t e same =
    let level : slice_cmp nat_cmp s.file t.file ≡ Equal = ap (slice_cmp nat_cmp s.file) (sym same) ∙ balanced (slice_cmp nat_cmp s.file s.file) (nat_list_cmp_total.antisymm s.file s.file) in
    let less : nat_cmp s.at t.at ≡ Less = sym (ap (λ o. ordering_then o (nat_cmp s.at t.at)) level) ∙ e in
    ranked s.at t.at Less (sym less)

-- the tokens of a file that come behind have numbers from one on
abbrev AreFrom : List ℕ → ℕ → List TokId → Type 0
AreFrom file low ts = AllByRecursion (λ u. bytes_eq u.file file ≡ true → low ≤ u.at) ts

from_next : (file : List ℕ) (t : TokId) (ts : List TokId) → bytes_eq t.file file ≡ true → AllByRecursion (λ u. tok_cmp t u ≡ Less) ts → AreFrom file (t.at + 1) ts
from_next file t [] e less = tt
from_next file t (u ∷ ts) e less = (
  (λ f. (let far : t.at < u.at = below t u less.0 ((bytes_eq-Decides t.file file).0 e ∙ sym ((bytes_eq-Decides u.file file).0 f)) in let next : t.at + 1 ≤ u.at = omega (arith, far) in next)),
  from_next file t ts e less.1,
)

ascend_by : (file : List ℕ) (t : TokId) (ts : List TokId) (low : ℕ) (b : Bool) → bytes_eq t.file file ≡ b → AreFrom file low (t ∷ ts) → AllByRecursion (λ u. tok_cmp t u ≡ Less) ts →
    ((low : ℕ) → AreFrom file low ts → Ascend low (numbers_in ts file)) → Ascend low (map (λ t. t.at) (cond b (t ∷ filter (is_in file) ts) (filter (is_in file) ts)))
ascend_by file t ts low true e from less later = (from.0 e, later (t.at + 1) (from_next file t ts e less))
ascend_by file t ts low false e from less later = later low from.1

ascend_from : (file : List ℕ) (ts : List TokId) (low : ℕ) → IsStrictlySortedBy tok_cmp ts → AreFrom file low ts → Ascend low (numbers_in ts file)
unfolding IsStrictlySortedBy
ascend_from file [] low sorted from = tt
ascend_from file (t ∷ ts) low sorted from = ascend_by file t ts low (is_in file t) refl from sorted.0 (λ l f. ascend_from file ts l sorted.1 f)

from_none : (file : List ℕ) (ts : List TokId) → AreFrom file 0 ts
from_none file [] = tt
from_none file (t ∷ ts) = ((λ e. (let none : 0 ≤ t.at = omega arith in none)), from_none file ts)

-- ---- ranges

some_is : (p q : ℕ × ℕ) → Some p ≡ Some q → p ≡ q
some_is p q e = ap (λ o. unwrap_or o p) e

one : (from : ℕ) (ps : List (ℕ × ℕ)) (n : ℕ) (r : ℕ × ℕ) → AreOrdered from ps → slice_get ps n ≡ Some r → (from ≤ r.0) × (r.0 < r.1)
one from [] n r is e = absurd (let bad : ⊥ = cc e in bad)
one from (p ∷ ps) zero r is e = subst (λ q. (from ≤ q.0) × (q.0 < q.1)) (some_is p r e) (is.0, is.1)
one from (p ∷ ps) (suc n) r is e =
    let later = one p.1 ps n r is.2 e in
    let far : from ≤ r.0 = (let a : from ≤ p.0 = is.0 in let b : p.0 < p.1 = is.1 in let c : p.1 ≤ r.0 = later.0 in omega (arith, a, b, c)) in
    (far, later.1)

two : (from : ℕ) (ps : List (ℕ × ℕ)) (n m : ℕ) (r q : ℕ × ℕ) → AreOrdered from ps → n < m → slice_get ps n ≡ Some r → slice_get ps m ≡ Some q → r.1 ≤ q.0
two from [] n m r q is less e f = absurd (let bad : ⊥ = cc e in bad)
two from (p ∷ ps) n zero r q is less e f = absurd (let bad : ⊥ = omega (arith, less) in bad)
two from (p ∷ ps) zero (suc m) r q is less e f = subst (λ x. x.1 ≤ q.0) (some_is p r e) (one p.1 ps m q is.2 f).0
two from (p ∷ ps) (suc n) (suc m) r q is less e f = two p.1 ps n m r q is.2 (let lower : n < m = omega (arith, less) in lower) e f

module _ (text : List ℕ) (ps : List (ℕ × ℕ)) (is : AreOrdered 0 ps) (named : AllByRecursion (EndsNamed text) ps) where
  stand_by : (at low n : ℕ) (ns : List ℕ) (o : Option (ℕ × ℕ)) → slice_get ps n ≡ o → low ≤ n → ((m : ℕ) (r : ℕ × ℕ) → low ≤ m → slice_get ps m ≡ Some r → at ≤ r.0) →
      ((at : ℕ) → ((m : ℕ) (r : ℕ × ℕ) → n + 1 ≤ m → slice_get ps m ≡ Some r → at ≤ r.0) → Stand text at (filter_map (range_at ps) ns)) →
      Stand text at (cons_option (option_map range_by o) (filter_map (range_at ps) ns))
  stand_by at low n ns None e le behind further = further at (λ m r more f. behind m r (let far : low ≤ m = omega (arith, le, more) in far) f)
  stand_by at low n ns (Some r) e le behind further =
      let here = one 0 ps n r is e in
      let ends = one_named text ps n r named e in (
        record { behind = behind n r le e; something = here.1; begins = ends.0.boundary; ends = ends.1.boundary },
        further r.1 (λ m q more f. two 0 ps n m r q is (let less : n < m = omega (arith, more) in less) e f),
      )

  stand_from : (at low : ℕ) (ns : List ℕ) → Ascend low ns → ((m : ℕ) (r : ℕ × ℕ) → low ≤ m → slice_get ps m ≡ Some r → at ≤ r.0) → Stand text at (filter_map (range_at ps) ns)
  stand_from at low [] up behind = tt
  stand_from at low (n ∷ ns) up behind = stand_by at low n ns (slice_get ps n) refl up.0 behind (λ a h. stand_from a (n + 1) ns up.1 h)

module _ (texts : Texts) (utf8 : AreUtf8 texts) (toks : List TokId) (sorted : IsStrictlySortedBy tok_cmp toks) where
  in_text : (path : List ℕ) → StandIn texts (ranges_at_path texts toks path)
  in_text path =
      let text : List ℕ = text_in texts path in
      stand_from text (lexed text).places (all_ordered text (own texts utf8 path)) (all_named text (own texts utf8 path)) 0 0 (numbers_in toks path) (ascend_from path toks 0 sorted (from_none path toks))
      (λ m r more e. (let none : 0 ≤ r.0 = omega arith in none))

  in_texts : (paths : List (List ℕ)) → AllByRecursion (StandIn texts) (map (ranges_at_path texts toks) paths)
  in_texts [] = tt
  in_texts (path ∷ paths) = (in_text path, in_texts paths)

pub ranges_stand : (texts : Texts) (toks : List TokId) → AreUtf8 texts → IsStrictlySortedBy tok_cmp toks → AllByRecursion (StandIn texts) (ranges_of texts toks)
ranges_stand texts toks utf8 sorted = in_texts texts utf8 toks sorted (paths_in toks)
