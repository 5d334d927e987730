-- Enumerators as the code reads them one behind another.
use Rattle.std.proofs.Common.{◌≡◌, refl, ap, sym, ◌∙◌, subst, ℕ, ◌+◌, ◌<◌, ◌≤◌, List, [], ◌∷◌, ◌++◌, length, arith, Bool, true, false, true≢false, Option, Some, None}
use Rattle.std.proofs.lemmas.List.{map-append}
use Rattle.tree_data.specs.declared.members.Enumerator as code
use Rattle.tree_data.specs.Seen.{enumerator_of, enumerators_of}
use Rattle.tree_data.specs.Trees.{Tree, Enumerator, Counted_of, Given_of, Enumerators, No_enumerators, Enumerator_then, enumerators}
use Rattle.c_parser.specs.declared.answers.Stop.{Stop}
use Rattle.c_parser.specs.declared.answers.Stop.TheVariants as stop
use Rattle.c_parser.specs.declared.kinds.Kind.{Kind}
use Rattle.c_parser.specs.declared.kinds.Kind.TheVariants.{Enum, Equals, Comma, CloseBrace}
use Rattle.c_parser.specs.EnumeratorsFound.{FoundEnumerator, FoundEnumerators, ends_enumerator}
use Rattle.c_parser.specs.Kinds.{kind_at, is_equals, is_word, braces_at}
use Rattle.c_parser.specs.MembersFound.{FoundTag}
use Rattle.c_parser.specs.Reading.{Holds, HoldsEnumerator, HoldEnumerators, HoldsComma, Found, IsWant}
use Rattle.c_parser.specs.TypeNames.{FailsSpecifying}
use Rattle.c_parser.proofs.Initials.{comma_goes, equals_is}
use Rattle.c_parser.proofs.Marks.{clash}
use Rattle.c_parser.proofs.Words.{test_inside}
use Rattle.c_parser.proofs.MemberReading.{OnlyList, enumerator_stops, enumerators_end, named_first, unequal}
use Rattle.c_parser.proofs.Parsing.{Fails}
use Rattle.c_parser.proofs.SameParts.{Only}
use Rattle.c_parser.proofs.SpecifierLists.{FailsList, second, enumeration_fails}

abbrev pub OnlyEnumerator : List Kind → ℕ → Enumerator → ℕ → Type 0
OnlyEnumerator ks a e b =
    (e' : Enumerator) → (b' : ℕ) → HoldsEnumerator ks e' a b' → ends_enumerator (kind_at ks b') ≡ true → (e ≡ e') × (b ≡ b')

abbrev pub FailsEnumerator : List Kind → ℕ → Stop → Type 0
FailsEnumerator ks a e = (x : Enumerator) → (b : ℕ) → HoldsEnumerator ks x a b → ends_enumerator (kind_at ks b) ≡ true → IsWant e

abbrev pub FailsEnumerators : List Kind → ℕ → Stop → Type 0
FailsEnumerators ks a e =
    (es : Enumerators) → (k : ℕ) → (t : Option ℕ) → (c : ℕ) → HoldEnumerators ks es a k → HoldsComma ks t k c → kind_at ks c ≡ CloseBrace → IsWant e

-- one of them
pub unnamed : (ks : List Kind) → (a : ℕ) → is_word (kind_at ks a) ≡ false → (n : ℕ) → FailsEnumerator ks a (stop.Syntax n)
unnamed ks a u n x b h f = true≢false (sym (named_first ks x a b h) ∙ u)

pub counted_found : (ks : List Kind) → (a : ℕ) → is_word (kind_at ks a) ≡ true → FoundEnumerator ks a (Counted_of a) (a + 1)
counted_found ks a k =
    let i : a < length ks = test_inside is_word refl ks a k in
    record { reads = (refl, k, refl); forth = omega arith; inside = omega (arith, i) }

pub counted_same : (ks : List Kind) → (a : ℕ) → (kind_at ks (a + 1) ≡ Equals → ⊥) → OnlyEnumerator ks a (Counted_of a) (a + 1)
counted_same ks a u (Counted_of n) b h f = (ap Counted_of (sym h.0), sym h.2)
counted_same ks a u (Given_of n q t) b h f = absurd (u (ap (λ x. kind_at ks x) (sym h.2) ∙ equals_is (kind_at ks q) h.3))

pub given_found : (ks : List Kind) → (a : ℕ) → is_word (kind_at ks a) ≡ true → kind_at ks (a + 1) ≡ Equals → (t : Tree) → (b : ℕ) → Found ks 3 (a + 2) t b
    → FoundEnumerator ks a (Given_of a (a + 1) t) b
given_found ks a k q t b found =
    let one : a + 2 < b = found.forth in
    let two : a + 2 ≡ (a + 1) + 1 = omega arith in
    record {
      reads = (refl, k, refl, ap is_equals q, found.reads.0, subst (λ x. Holds ks t x b) two found.reads.1);
      forth = omega arith;
      inside = found.inside;
    }

pub given_same : (ks : List Kind) → (a : ℕ) → kind_at ks (a + 1) ≡ Equals → (t : Tree) → (b : ℕ) → Only ks 3 (a + 2) t b
    → OnlyEnumerator ks a (Given_of a (a + 1) t) b
given_same ks a q t b only (Counted_of n) b' h f = unequal (kind_at ks b') f (ap (λ x. is_equals (kind_at ks x)) h.2 ∙ ap is_equals q)
given_same ks a q t b only (Given_of n p u) b' h f =
    let same = only u b' (h.4, subst (λ x. Holds ks u x b') (second a p h.2) h.5) (enumerator_stops ks b' f) in (
      ap (λ x. Given_of x (a + 1) t) (sym h.0) ∙ ap (λ x. Given_of n x t) (sym h.2) ∙ ap (λ x. Given_of n p x) same.0,
      same.1,
    )

pub given_fails : (ks : List Kind) → (a : ℕ) → kind_at ks (a + 1) ≡ Equals → (e : Stop) → Fails ks 3 (a + 2) e → FailsEnumerator ks a e
given_fails ks a q e fails (Counted_of n) b h f = unequal (kind_at ks b) f (ap (λ x. is_equals (kind_at ks x)) h.2 ∙ ap is_equals q)
given_fails ks a q e fails (Given_of n p u) b h f =
    fails u b (h.4, subst (λ x. Holds ks u x b) (second a p h.2) h.5) (enumerator_stops ks b f)

-- what the loop keeps
enumerators_snoc : (done : List (ℕ × Enumerator)) → (o : ℕ) → (x : Enumerator) → (more : Enumerators)
    → enumerators (done ++ (o, x) ∷ []) more ≡ enumerators done (Enumerator_then o x more)
enumerators_snoc [] o x more = refl
enumerators_snoc (y ∷ ys) o x more = ap (Enumerator_then y.0 y.1) (enumerators_snoc ys o x more)

pub record EnumeratorsLeft (ks : List Kind) (done : List (ℕ × Enumerator)) (at : ℕ) (es : Enumerators) (k : ℕ) : Type 0 where
  pub left : Enumerators
  pub is : es ≡ enumerators done left
  pub holds : HoldEnumerators ks left at k

pub record Enumerating (ks : List Kind) (start : ℕ) (done : List (ℕ × Enumerator)) (at : ℕ) : Type 0 where
  pub grows : (es : Enumerators) → (k : ℕ) → HoldEnumerators ks es at k → HoldEnumerators ks (enumerators done es) start k
  pub only : (es : Enumerators) → (k : ℕ) → (t : Option ℕ) → (c : ℕ) → HoldEnumerators ks es start k → HoldsComma ks t k c
      → kind_at ks c ≡ CloseBrace → EnumeratorsLeft ks done at es k
  pub forth : start ≤ at
  pub inside : at ≤ length ks

enumerating_start : (ks : List Kind) → (at : ℕ) → at ≤ length ks → Enumerating ks at [] at
enumerating_start ks at i = record {
  grows = λ es k h. h;
  only = λ es k t c h g l. record { left = es; is = refl; holds = h };
  forth = omega arith;
  inside = i;
}

pub enumerating_start_with : (ks : List Kind) → (at : ℕ) → (items : List (ℕ × code.Enumerator)) → items ≡ [] → at ≤ length ks
    → Enumerating ks at (enumerators_of items) at
enumerating_start_with ks at items e i = subst (λ xs. Enumerating ks at (enumerators_of xs) at) (sym e) (enumerating_start ks at i)

enumerator_left : (ks : List Kind) → (done : List (ℕ × Enumerator)) → (at : ℕ) → (x : Enumerator) → (m : ℕ) → kind_at ks at ≡ Comma
    → (kind_at ks (at + 1) ≡ CloseBrace → ⊥) → OnlyEnumerator ks (at + 1) x m → (es left : Enumerators) → (k : ℕ) → (t : Option ℕ) → (c : ℕ)
    → es ≡ enumerators done left → HoldEnumerators ks left at k → HoldsComma ks t k c → kind_at ks c ≡ CloseBrace
    → EnumeratorsLeft ks (done ++ (at, x) ∷ []) m es k
enumerator_left ks done at x m q n only es No_enumerators k t c is h g l = comma_goes ks t at k c q n h g l
enumerator_left ks done at x m q n only es (Enumerator_then o y left) k t c is h g l =
    let one = only y h.0 h.3 (enumerators_end ks left t h.0 k c h.4 g l) in
    record {
      left = left;
      is =
          is
          ∙ ap (λ z. enumerators done (Enumerator_then z y left)) h.1
          ∙ ap (λ z. enumerators done (Enumerator_then at z left)) (sym one.0)
          ∙ sym (enumerators_snoc done at x left);
      holds = subst (λ z. HoldEnumerators ks left z k) (sym one.1) h.4;
    }

enumerating_turn : (ks : List Kind) → (start : ℕ) → (done : List (ℕ × Enumerator)) → (at : ℕ) → Enumerating ks start done at → kind_at ks at ≡ Comma
    → (kind_at ks (at + 1) ≡ CloseBrace → ⊥) → (x : Enumerator) → (m : ℕ) → FoundEnumerator ks (at + 1) x m → OnlyEnumerator ks (at + 1) x m
    → Enumerating ks start (done ++ (at, x) ∷ []) m
enumerating_turn ks start done at loop q n x m found only =
    let one : start ≤ at = loop.forth in
    let two : at + 1 < m = found.forth in
    record {
      grows = λ es k h.
          subst
          (λ xs. HoldEnumerators ks xs start k)
          (sym (enumerators_snoc done at x es))
          (loop.grows (Enumerator_then at x es) k (m, refl, q, found.reads, h));
      only = λ es k t c h g l.
          let a = loop.only es k t c h g l in
          enumerator_left ks done at x m q n only es a.left k t c a.is a.holds g l;
      forth = omega arith;
      inside = found.inside;
    }

pub enumerating_push : (ks : List Kind) → (start : ℕ) → (items more : List (ℕ × code.Enumerator)) → (at : ℕ)
    → Enumerating ks start (enumerators_of items) at → kind_at ks at ≡ Comma → (kind_at ks (at + 1) ≡ CloseBrace → ⊥) → (x : code.Enumerator) → (m : ℕ)
    → FoundEnumerator ks (at + 1) (enumerator_of x) m → OnlyEnumerator ks (at + 1) (enumerator_of x) m → more ≡ items ++ (at, x) ∷ []
    → Enumerating ks start (enumerators_of more) m
enumerating_push ks start items more at loop q n x m found only grown =
    subst
    (λ xs. Enumerating ks start xs m)
    (sym (ap enumerators_of grown ∙ map-append (λ y. (y.0, enumerator_of y.1)) items ((at, x) ∷ [])))
    (enumerating_turn ks start (enumerators_of items) at loop q n (enumerator_of x) m found only)

pub enumerating_end : (ks : List Kind) → (start : ℕ) → (done : List (ℕ × Enumerator)) → (at : ℕ) → Enumerating ks start done at
    → FoundEnumerators ks start (enumerators done No_enumerators) None at
enumerating_end ks start done at loop =
    record { behind = at; reads = loop.grows No_enumerators at refl; comma = refl; forth = loop.forth; inside = loop.inside }

pub enumerating_last : (ks : List Kind) → (start : ℕ) → (done : List (ℕ × Enumerator)) → (at : ℕ) → Enumerating ks start done at
    → kind_at ks at ≡ Comma → at < length ks → FoundEnumerators ks start (enumerators done No_enumerators) (Some at) (at + 1)
enumerating_last ks start done at loop q i =
    let one : start ≤ at = loop.forth in
    record { behind = at; reads = loop.grows No_enumerators at refl; comma = (refl, q, refl); forth = omega arith; inside = omega (arith, i) }

none_left : (ks : List Kind) → (done : List (ℕ × Enumerator)) → (at : ℕ) → (kind_at ks at ≡ Comma → ⊥) → (es left : Enumerators) → (k : ℕ)
    → (t : Option ℕ) → (c : ℕ) → es ≡ enumerators done left → HoldEnumerators ks left at k → HoldsComma ks t k c
    → (enumerators done No_enumerators ≡ es) × (None ≡ t) × (at ≡ c)
none_left ks done at n es No_enumerators k None c is h g = (sym is, refl, sym (g ∙ h))
none_left ks done at n es No_enumerators k (Some o) c is h g = absurd (n (ap (λ x. kind_at ks x) (sym h) ∙ g.1))
none_left ks done at n es (Enumerator_then o x left) k t c is h g = absurd (n h.2)

pub enumerating_only : (ks : List Kind) → (start : ℕ) → (done : List (ℕ × Enumerator)) → (at : ℕ) → Enumerating ks start done at
    → (kind_at ks at ≡ Comma → ⊥) → OnlyList ks start (enumerators done No_enumerators) None at
enumerating_only ks start done at loop n es k t c h g l =
    let a = loop.only es k t c h g l in
    none_left ks done at n es a.left k t c a.is a.holds g

last_left : (ks : List Kind) → (done : List (ℕ × Enumerator)) → (at : ℕ) → kind_at ks at ≡ Comma → kind_at ks (at + 1) ≡ CloseBrace
    → (es left : Enumerators) → (k : ℕ) → (t : Option ℕ) → (c : ℕ) → es ≡ enumerators done left → HoldEnumerators ks left at k → HoldsComma ks t k c
    → kind_at ks c ≡ CloseBrace → (enumerators done No_enumerators ≡ es) × (Some at ≡ t) × (at + 1 ≡ c)
last_left ks done at q n es No_enumerators k None c is h g l =
    clash (kind_at ks at) Comma CloseBrace q (ap (λ x. kind_at ks x) (sym (g ∙ h)) ∙ l) (λ x. omega (arith, x))
last_left ks done at q n es No_enumerators k (Some o) c is h g l =
    (sym is, ap Some (sym (g.0 ∙ h)), sym (g.2 ∙ ap (λ x. x + 1) h))
last_left ks done at q n es (Enumerator_then o x left) k t c is h g l =
    absurd (true≢false (sym (named_first ks x (at + 1) h.0 h.3) ∙ ap is_word n))

pub enumerating_only_last : (ks : List Kind) → (start : ℕ) → (done : List (ℕ × Enumerator)) → (at : ℕ) → Enumerating ks start done at
    → kind_at ks at ≡ Comma → kind_at ks (at + 1) ≡ CloseBrace → OnlyList ks start (enumerators done No_enumerators) (Some at) (at + 1)
enumerating_only_last ks start done at loop q n es k t c h g l =
    let a = loop.only es k t c h g l in
    last_left ks done at q n es a.left k t c a.is a.holds g l

enumerator_stop : (ks : List Kind) → (at : ℕ) → kind_at ks at ≡ Comma → (kind_at ks (at + 1) ≡ CloseBrace → ⊥) → (e : Stop)
    → FailsEnumerator ks (at + 1) e → (left : Enumerators) → (k : ℕ) → (t : Option ℕ) → (c : ℕ) → HoldEnumerators ks left at k → HoldsComma ks t k c
    → kind_at ks c ≡ CloseBrace → IsWant e
enumerator_stop ks at q n e fails No_enumerators k t c h g l = comma_goes ks t at k c q n h g l
enumerator_stop ks at q n e fails (Enumerator_then o x left) k t c h g l =
    fails x h.0 h.3 (enumerators_end ks left t h.0 k c h.4 g l)

pub enumerating_fails : (ks : List Kind) → (start : ℕ) → (done : List (ℕ × Enumerator)) → (at : ℕ) → Enumerating ks start done at
    → kind_at ks at ≡ Comma → (kind_at ks (at + 1) ≡ CloseBrace → ⊥) → (e : Stop) → FailsEnumerator ks (at + 1) e → FailsEnumerators ks start e
enumerating_fails ks start done at loop q n e fails es k t c h g l =
    let a = loop.only es k t c h g l in
    enumerator_stop ks at q n e fails a.left k t c a.holds g l

-- all of them up to the `}`
pub first_fails : (ks : List Kind) → (a : ℕ) → (e : Stop) → FailsEnumerator ks a e → FailsList ks a e
first_fails ks a e fails x m es n t c h g i l = fails x m h (enumerators_end ks es t m n c g i l)

pub rest_fails : (ks : List Kind) → (a : ℕ) → (x : Enumerator) → (m : ℕ) → OnlyEnumerator ks a x m → (e : Stop) → FailsEnumerators ks m e
    → FailsList ks a e
rest_fails ks a x m only e fails x' m' es n t c h g i l =
    let one = only x' m' h (enumerators_end ks es t m' n c g i l) in
    fails es n t c (subst (λ z. HoldEnumerators ks es z n) (sym one.1) g) i l

pub list_unclosed : (ks : List Kind) → (a : ℕ) → (x : Enumerator) → (m : ℕ) → OnlyEnumerator ks a x m → (es : Enumerators) → (t : Option ℕ) → (c : ℕ)
    → OnlyList ks m es t c → (kind_at ks c ≡ CloseBrace → ⊥) → (n : ℕ) → FailsList ks a (stop.Syntax n)
list_unclosed ks a x m only es t c more u n x' m' es' n' t' c' h g i l =
    let one = only x' m' h (enumerators_end ks es' t' m' n' c' g i l) in
    let two = more es' n' t' c' (subst (λ z. HoldEnumerators ks es' z n') (sym one.1) g) i l in
    u (ap (λ z. kind_at ks z) two.2 ∙ l)

pub unclosed : (ks : List Kind) → (y : Bool) → (a : ℕ) → kind_at ks a ≡ Enum → braces_at ks (a + 1) ≡ true → (g : Option ℕ) → (o : ℕ)
    → FoundTag ks (a + 1) g o → (x : Enumerator) → (m : ℕ) → OnlyEnumerator ks (o + 1) x m → (es : Enumerators) → (t : Option ℕ) → (c : ℕ)
    → OnlyList ks m es t c → (kind_at ks c ≡ CloseBrace → ⊥) → (n : ℕ) → FailsSpecifying ks y a (stop.Syntax n)
unclosed ks y a k b g o tag x m only es t c more u n =
    enumeration_fails ks y a k b g o tag (stop.Syntax n) (list_unclosed ks (o + 1) x m only es t c more u n)
