-- Specifiers and qualifiers, as the code reads them one behind another, and the name of a type from them and its declarator.
use Rattle.std.proofs.Common.{◌≡◌, refl, ap, sym, ◌∙◌, subst, ℕ, ◌+◌, ◌<◌, ◌≤◌, List, [], ◌∷◌, ◌++◌, length, arith, Bool, true, false, true≢false, ◌&&◌, ◌||◌, ◌==◌, Option, Some, None}
use Rattle.std.proofs.lemmas.List.{map-append}
use Rattle.tree_data.specs.declared.types.Specifier.{Specifier}
use Rattle.tree_data.specs.Seen.{specifier_of, specifiers_of}
use Rattle.tree_data.specs.Trees.{Tree, Members, Enumerator, Enumerators, Specifying, Word_of, Typedef_of, Tag_of, Atomic_of, Aligned_as_of, Aligned_of, Members_of, Enumerators_of, Specifyings, No_specifiers, Specifier_then, Naming, Type_of, Declaring, specifyings}
use Rattle.c_parser.specs.declared.answers.Stop.{Stop}
use Rattle.c_parser.specs.declared.answers.Stop.TheVariants as stop
use Rattle.c_parser.specs.declared.kinds.Kind.{Kind}
use Rattle.c_parser.specs.declared.kinds.Kind.TheVariants.{TypeWord, Qualifier, Storage, Static, Tag, Enum, Align, Atomic, OpenParen, CloseParen, OpenBrace, CloseBrace, Typedef}
use Rattle.c_parser.specs.Beginnings.{IsNamed}
use Rattle.c_parser.specs.Grammar.{has_type, AreSome, MayStand, first_in, all_admitted, typed_by}
use Rattle.c_parser.specs.Kinds.{kind_at, is_word, is_type_word, ends_type, ends_specifiers, specifies_at, atomic_opens, stored_amiss, named_by, is_typedef, is_tagging, is_brace, starts_type, admits, site_of, braces_at, list_opens}
use Rattle.c_parser.specs.Reading.{Holds, HoldsTag, HoldMembers, HoldsEnumerator, HoldEnumerators, HoldsComma, HoldSpecifying, HoldSpecifyings, HoldsNaming, HoldsType, HoldsDeclaring, Found, FoundNaming, Reads, Stops, IsWant}
use Rattle.c_parser.specs.TypeNames.{NoMore, FoundSpecifying, FoundSpecifiers, FoundDeclaring, FailsSpecifying}
use Rattle.c_parser.proofs.Marks.{clash, stops_at, no_type}
use Rattle.c_parser.proofs.Forth.{specifyings_forth}
use Rattle.c_parser.proofs.MemberReading.{specifying_only, specifying_strict, no_specifying, tag_same}
use Rattle.c_parser.proofs.TypeReading.{everywhere, declaring_begins, named_moved}
use Rattle.c_parser.proofs.Words.{specifies_not, specifies_none, atomic_not, opens_kind, opens_next, opens_both, left_of, right_of, amiss_refused, amiss_admitted, specifies_untyped, typedef_not, test_inside, is_a_brace, list_both, brace_first, brace_second, tag_opens, opens_here, tagging_untyped, tagging_unspecified, tagging_by, tagging_opens_not}
use Rattle.c_parser.specs.declared.kinds.Named.{Named}
use Rattle.c_parser.specs.declared.kinds.Site.{Site}
use Rattle.c_parser.specs.declared.kinds.Site.TheVariants.{OfName, OfMember, OfDeclaration}
use Rattle.c_parser.specs.EnumeratorsFound.{FoundEnumerator, FoundEnumerators}
use Rattle.c_parser.specs.MembersFound.{FoundTag, FoundMembers, FailsMembers}
use Rattle.c_parser.proofs.SameParts.{Only}
use Rattle.c_parser.proofs.Types.{type_starts}
use Rattle.c_parser.proofs.Views.{starts}

one_only : (ks : List Kind) → (y : Bool) → (s : Specifying) → (a b : ℕ) → HoldSpecifying ks y s a b
    → (s' : Specifying) → (b' : ℕ) → HoldSpecifying ks y s' a b' → (s ≡ s') × (b ≡ b')
one_only ks y s a b = specifying_only ks y s a b (everywhere ks (a + 1))

specifyings_snoc : (done : List Specifying) → (s : Specifying) → (more : Specifyings)
    → specifyings (done ++ s ∷ []) more ≡ specifyings done (Specifier_then s more)
specifyings_snoc [] s more = refl
specifyings_snoc (x ∷ xs) s more = ap (Specifier_then x) (specifyings_snoc xs s more)

-- specifiers of one or two tokens
pub word_found : (ks : List Kind) → (y : Bool) → (at : ℕ) → (s : Specifying) → (z : Bool) → s ≡ Word_of at → specifies_at ks at ≡ true
    → at < length ks → z ≡ (is_type_word (kind_at ks at) || y)
    → FoundSpecifying ks y at s (at + 1) × (z ≡ (has_type ks s || y))
word_found ks y at s z e w i f = (
  record { reads = subst (λ x. HoldSpecifying ks y x at (at + 1)) (sym e) (refl, w, refl); forth = omega arith; inside = omega arith },
  f ∙ ap (λ x. has_type ks x || y) (sym e),
)

pub typedef_found : (ks : List Kind) → (y : Bool) → (at : ℕ) → (s : Specifying) → s ≡ Typedef_of at → y ≡ false → is_typedef (kind_at ks at) ≡ true
    → at < length ks → FoundSpecifying ks y at s (at + 1) × (true ≡ (has_type ks s || y))
typedef_found ks y at s e u k i = (
  record { reads = subst (λ x. HoldSpecifying ks y x at (at + 1)) (sym e) (refl, u, k, refl); forth = omega arith; inside = omega arith },
  ap (λ x. has_type ks x || y) (sym e),
)

pub tag_found : (ks : List Kind) → (y : Bool) → (at : ℕ) → (s : Specifying) → s ≡ Tag_of at (at + 1) → is_tagging (kind_at ks at) ≡ true
    → is_word (kind_at ks (at + 1)) ≡ true → is_brace (kind_at ks (at + 2)) ≡ false
    → FoundSpecifying ks y at s (at + 2) × (true ≡ (has_type ks s || y))
tag_found ks y at s e k w n =
    let two : at + 2 ≡ (at + 1) + 1 = omega arith in
    let i : at + 1 < length ks = test_inside is_word refl ks (at + 1) w in
    let unbraced : kind_at ks (at + 2) ≡ OpenBrace → ⊥ = λ x. true≢false (sym (is_a_brace (kind_at ks (at + 2)) x) ∙ n) in (
      record {
        reads = subst (λ x. HoldSpecifying ks y x at (at + 2)) (sym e) (refl, k, refl, w, two, unbraced);
        forth = omega arith;
        inside = omega arith;
      },
      ap (λ x. has_type ks x || y) (sym e),
    )

abbrev NoTag : List Kind → ℕ → Type 0
NoTag ks at = is_tagging (kind_at ks at) ≡ true → is_word (kind_at ks (at + 1)) ≡ true → (kind_at ks (at + 2) ≡ OpenBrace → ⊥) → ⊥

braced_opens : (ks : List Kind) → (g : Option ℕ) → (a o : ℕ) → HoldsTag ks g (a + 1) o → kind_at ks o ≡ OpenBrace → braces_at ks (a + 1) ≡ true
braced_opens ks None a o h k = brace_first ks (a + 1) (ap (λ x. kind_at ks x) (sym h) ∙ k)
braced_opens ks (Some n) a o h k = brace_second ks (a + 1) h.1 (ap (λ x. kind_at ks x) (sym h.2) ∙ k)

list_stands : (ks : List Kind) → (a : ℕ) → (g : Option ℕ) → (o : ℕ) → is_tagging (kind_at ks a) ≡ true → HoldsTag ks g (a + 1) o
    → kind_at ks o ≡ OpenBrace → list_opens ks a ≡ true
list_stands ks a g o k t b = list_both ks a k (braced_opens ks g a o t b)

pub nothing_stands : (ks : List Kind) → (y : Bool) → (at : ℕ) → atomic_opens ks at ≡ false → list_opens ks at ≡ false → (kind_at ks at ≡ Align → ⊥)
    → (specifies_at ks at ≡ true → ⊥) → (y ≡ false → is_typedef (kind_at ks at) ≡ true → ⊥) → NoTag ks at → NoMore ks y at
nothing_stands ks y at o g l w n t (Word_of k) b h = w h.1
nothing_stands ks y at o g l w n t (Typedef_of k) b h = n h.1 h.2
nothing_stands ks y at o g l w n t (Tag_of k m) b h =
    let end : b ≡ at + 2 = omega (arith, h.4, h.2) in
    t h.1 (ap (λ x. is_word (kind_at ks x)) (sym h.2) ∙ h.3) (subst (λ x. kind_at ks x ≡ OpenBrace → ⊥) end h.5)
nothing_stands ks y at o g l w n t (Atomic_of k p u c) b h =
    true≢false (sym (opens_both ks at h.1 (ap (λ x. kind_at ks x) (sym h.2) ∙ h.3)) ∙ o)
nothing_stands ks y at o g l w n t (Aligned_as_of k p u c) b h = l h.1
nothing_stands ks y at o g l w n t (Aligned_of k p u c) b h = l h.1
nothing_stands ks y at o g l w n t (Members_of k x p ms c) b h = true≢false (sym (list_stands ks at x p (ap is_tagging h.1) h.2 h.3) ∙ g)
nothing_stands ks y at o g l w n t (Enumerators_of k x p e es u c) b h =
    true≢false (sym (list_stands ks at x p (ap is_tagging h.3) h.4 h.5) ∙ g)

tagging_aligned_not : (k : Kind) → is_tagging k ≡ true → k ≡ Align → ⊥
tagging_aligned_not k h e = true≢false (sym h ∙ ap is_tagging e)

pub typedef_hides : (ks : List Kind) → (y : Bool) → (at : ℕ) → atomic_opens ks at ≡ false → list_opens ks at ≡ false → (kind_at ks at ≡ Align → ⊥)
    → is_typedef (kind_at ks at) ≡ true → y ≡ true → NoMore ks y at
typedef_hides ks y at o g l k t =
    nothing_stands
    ks
    y
    at
    o
    g
    l
    (λ w. specifies_untyped ks at w k)
    (λ f x. true≢false (sym t ∙ f))
    (λ x w n. true≢false (sym k ∙ tagging_untyped (kind_at ks at) x))

-- behind `struct`, `union` or `enum` neither a tag nor a list in braces
pub untagged : (ks : List Kind) → (y : Bool) → (at : ℕ) → is_tagging (kind_at ks at) ≡ true → list_opens ks at ≡ false
    → (is_word (kind_at ks (at + 1)) ≡ true → (kind_at ks (at + 2) ≡ OpenBrace → ⊥) → ⊥) → NoMore ks y at
untagged ks y at k g n =
    let other = tagging_unspecified (kind_at ks at) k in
    nothing_stands
    ks
    y
    at
    (tagging_opens_not ks at k)
    g
    (tagging_aligned_not (kind_at ks at) k)
    (λ w. specifies_not ks at (kind_at ks at) w refl other.0 other.1)
    (λ f x. true≢false (sym x ∙ tagging_untyped (kind_at ks at) k))
    (λ x w m. n w m)

pub no_kind : (ks : List Kind) → (y : Bool) → (at : ℕ) → (k : Kind) → atomic_opens ks at ≡ false → list_opens ks at ≡ false
    → (kind_at ks at ≡ Align → ⊥) → k ≡ kind_at ks at → (k ≡ TypeWord → ⊥) → (k ≡ Qualifier → ⊥) → (k ≡ Storage → ⊥) → (k ≡ Typedef → ⊥)
    → (k ≡ Static → ⊥) → (k ≡ Atomic → ⊥) → (is_typedef k ≡ true → ⊥) → (k ≡ Tag → ⊥) → (k ≡ Enum → ⊥) → NoMore ks y at
no_kind ks y at k o g l e w q c d s a n t u =
    nothing_stands ks y at o g l (specifies_none ks at k e w q c d s a) (λ f x. n (ap is_typedef e ∙ x))
    (λ x i m. tagging_by (kind_at ks at) (λ z. t (e ∙ z)) (λ z. u (e ∙ z)) x)

-- `_Atomic ( type-name )`
pub atomic_found : (ks : List Kind) → (at : ℕ) → (s : Specifying) → (t : Naming) → (c : ℕ) → atomic_opens ks at ≡ true → s ≡ Atomic_of at (at + 1) t c
    → IsNamed ks (at + 1) t c → FoundSpecifying ks false at s (c + 1)
atomic_found ks at s t c o e n =
    let one : (at + 1) + 1 < c = n.forth in
    let two : c < length ks = n.inside in
    record {
      reads =
          subst
          (λ x. HoldSpecifying ks false x at (c + 1))
          (sym e)
          (refl, opens_kind ks at o, refl, n.opens, n.reads, n.closes, refl);
      forth = omega arith;
      inside = omega arith;
    }

tagging_atomic_not : {A : Type 0} → (k : Kind) → is_tagging k ≡ true → k ≡ Atomic → A
tagging_atomic_not k h e = absurd (true≢false (sym h ∙ ap is_tagging e))

atomic_by : (ks : List Kind) → (y : Bool) → (s : Specifying) → (a b : ℕ) → atomic_opens ks a ≡ true → HoldSpecifying ks false s a b
    → HoldSpecifying ks y s a b × (true ≡ (has_type ks s || y))
atomic_by ks y (Word_of n) a b o h = atomic_not ks a h.1 (opens_kind ks a o) (opens_next ks a o)
atomic_by ks y (Typedef_of n) a b o h = typedef_not (kind_at ks a) Atomic h.2 (opens_kind ks a o) refl
atomic_by ks y (Tag_of k n) a b o h = tagging_atomic_not (kind_at ks a) h.1 (opens_kind ks a o)
atomic_by ks y (Atomic_of k p t c) a b o h = (h, refl)
atomic_by ks y (Aligned_as_of k p t c) a b o h = clash (kind_at ks a) Align Atomic h.1 (opens_kind ks a o) (λ x. omega (arith, x))
atomic_by ks y (Aligned_of k p t c) a b o h = clash (kind_at ks a) Align Atomic h.1 (opens_kind ks a o) (λ x. omega (arith, x))
atomic_by ks y (Members_of k g p ms c) a b o h = clash (kind_at ks a) Tag Atomic h.1 (opens_kind ks a o) (λ x. omega (arith, x))
atomic_by ks y (Enumerators_of k g p e es t c) a b o h = clash (kind_at ks a) Enum Atomic h.3 (opens_kind ks a o) (λ x. omega (arith, x))

pub atomic_specified : (ks : List Kind) → (y : Bool) → (a : ℕ) → (s : Specifying) → (b : ℕ) → atomic_opens ks a ≡ true
    → FoundSpecifying ks false a s b → FoundSpecifying ks y a s b × (true ≡ (has_type ks s || y))
atomic_specified ks y a s b o found =
    let by = atomic_by ks y s a b o found.reads in
    (record { reads = by.0; forth = found.forth; inside = found.inside }, by.1)

atomic_none : (ks : List Kind) → (y : Bool) → (a : ℕ) → (e : Stop) → atomic_opens ks a ≡ true
    → ((t : Naming) → (c : ℕ) → HoldsType ks t ((a + 1) + 1) c → kind_at ks c ≡ CloseParen → IsWant e)
    → (s : Specifying) → (b : ℕ) → HoldSpecifying ks y s a b → IsWant e
atomic_none ks y a e o fails (Word_of n) b h = atomic_not ks a h.1 (opens_kind ks a o) (opens_next ks a o)
atomic_none ks y a e o fails (Typedef_of n) b h = typedef_not (kind_at ks a) Atomic h.2 (opens_kind ks a o) refl
atomic_none ks y a e o fails (Tag_of k n) b h = tagging_atomic_not (kind_at ks a) h.1 (opens_kind ks a o)
atomic_none ks y a e o fails (Aligned_as_of k p t c) b h = clash (kind_at ks a) Align Atomic h.1 (opens_kind ks a o) (λ x. omega (arith, x))
atomic_none ks y a e o fails (Aligned_of k p t c) b h = clash (kind_at ks a) Align Atomic h.1 (opens_kind ks a o) (λ x. omega (arith, x))
atomic_none ks y a e o fails (Members_of k g p ms c) b h = clash (kind_at ks a) Tag Atomic h.1 (opens_kind ks a o) (λ x. omega (arith, x))
atomic_none ks y a e o fails (Enumerators_of k g p el es t c) b h =
    clash (kind_at ks a) Enum Atomic h.3 (opens_kind ks a o) (λ x. omega (arith, x))
atomic_none ks y a e o fails (Atomic_of k p t c) b h = fails t c (subst (λ x. HoldsType ks t (x + 1) c) h.2 h.4) h.5

pub atomic_fails : (ks : List Kind) → (y : Bool) → (a : ℕ) → (e : Stop) → atomic_opens ks a ≡ true
    → ((t : Naming) → (c : ℕ) → HoldsType ks t ((a + 1) + 1) c → kind_at ks c ≡ CloseParen → IsWant e) → FailsSpecifying ks y a e
atomic_fails ks y a e o fails = (ap (λ k. ends_specifiers k y) (opens_kind ks a o), atomic_none ks y a e o fails)

-- `_Alignas`
align_only : (ks : List Kind) → (y : Bool) → (a : ℕ) → kind_at ks a ≡ Align → (e : Stop)
    → ((k o : ℕ) → (t : Naming) → (c b : ℕ) → HoldSpecifying ks y (Aligned_as_of k o t c) a b → IsWant e)
    → ((k o : ℕ) → (t : Tree) → (c b : ℕ) → HoldSpecifying ks y (Aligned_of k o t c) a b → IsWant e)
    → (s : Specifying) → (b : ℕ) → HoldSpecifying ks y s a b → IsWant e
align_only ks y a k e f g (Word_of n) b h = specifies_not ks a Align h.1 k refl refl
align_only ks y a k e f g (Typedef_of n) b h = typedef_not (kind_at ks a) Align h.2 k refl
align_only ks y a k e f g (Tag_of i n) b h = absurd (tagging_aligned_not (kind_at ks a) h.1 k)
align_only ks y a k e f g (Atomic_of i p t c) b h = clash (kind_at ks a) Align Atomic k h.1 (λ x. omega (arith, x))
align_only ks y a k e f g (Aligned_as_of i p t c) b h = f i p t c b h
align_only ks y a k e f g (Aligned_of i p t c) b h = g i p t c b h
align_only ks y a k e f g (Members_of i x p ms c) b h = clash (kind_at ks a) Align Tag k h.1 (λ z. omega (arith, z))
align_only ks y a k e f g (Enumerators_of i x p el es t c) b h = clash (kind_at ks a) Align Enum k h.3 (λ z. omega (arith, z))

align_ends : (ks : List Kind) → (y : Bool) → (a : ℕ) → kind_at ks a ≡ Align → ends_specifiers (kind_at ks a) y ≡ false
align_ends ks y a k = ap (λ x. ends_specifiers x y) k

pub align_unopened : (ks : List Kind) → (y : Bool) → (a : ℕ) → kind_at ks a ≡ Align → (kind_at ks (a + 1) ≡ OpenParen → ⊥) → (n : ℕ)
    → FailsSpecifying ks y a (stop.Syntax n)
align_unopened ks y a k u n = (
  align_ends ks y a k,
  align_only ks y a k (stop.Syntax n) (λ i o t c b h. u (ap (λ x. kind_at ks x) (sym h.2) ∙ h.3))
      (λ i o t c b h. u (ap (λ x. kind_at ks x) (sym h.2) ∙ h.3)),
)

pub second : (a o : ℕ) → o ≡ a + 1 → o + 1 ≡ a + 2
second a o e = omega (arith, e)

type_not_tree : {A : Type 0} → (ks : List Kind) → (t : Tree) → (a b : ℕ) → starts_type (kind_at ks a) ≡ true → Holds ks t a b → A
type_not_tree ks t a b s h = absurd (true≢false (sym s ∙ no_type (kind_at ks a) (starts ks t a b h)))

tree_not_type : {A : Type 0} → (ks : List Kind) → (t : Naming) → (a b : ℕ) → starts_type (kind_at ks a) ≡ false → HoldsType ks t a b → A
tree_not_type ks t a b s h = absurd (true≢false (sym (type_starts ks t a b h) ∙ s))

pub aligned_as_fails : (ks : List Kind) → (y : Bool) → (a : ℕ) → kind_at ks a ≡ Align → starts_type (kind_at ks (a + 2)) ≡ true → (e : Stop)
    → ((t : Naming) → (c : ℕ) → HoldsType ks t ((a + 1) + 1) c → kind_at ks c ≡ CloseParen → IsWant e) → FailsSpecifying ks y a e
aligned_as_fails ks y a k s e fails = (
  align_ends ks y a k,
  align_only ks y a k e (λ i o t c b h. fails t c (subst (λ x. HoldsType ks t (x + 1) c) h.2 h.4) h.5)
      (λ i o t c b h. type_not_tree ks t (a + 2) c s (subst (λ x. Holds ks t x c) (second a o h.2) h.5)),
)

pub aligned_as_found : (ks : List Kind) → (y : Bool) → (a : ℕ) → (s : Specifying) → (t : Naming) → (c : ℕ) → kind_at ks a ≡ Align
    → s ≡ Aligned_as_of a (a + 1) t c → IsNamed ks (a + 1) t c → FoundSpecifying ks y a s (c + 1) × (y ≡ (has_type ks s || y))
aligned_as_found ks y a s t c k e n =
    let one : (a + 1) + 1 < c = n.forth in
    let two : c < length ks = n.inside in (
      record {
        reads = subst (λ x. HoldSpecifying ks y x a (c + 1)) (sym e) (refl, k, refl, n.opens, n.reads, n.closes, refl);
        forth = omega arith;
        inside = omega arith;
      },
      ap (λ x. has_type ks x || y) (sym e),
    )

pub aligned_fails : (ks : List Kind) → (y : Bool) → (a : ℕ) → kind_at ks a ≡ Align → starts_type (kind_at ks (a + 2)) ≡ false → (e : Stop)
    → ((t : Tree) → (c : ℕ) → Reads ks 3 t (a + 2) c → Stops ks 3 c → IsWant e) → FailsSpecifying ks y a e
aligned_fails ks y a k s e fails = (
  align_ends ks y a k,
  align_only ks y a k e
      (λ i o t c b h. tree_not_type ks t (a + 2) c s (subst (λ x. HoldsType ks t x c) (second a o h.2) h.4))
      (λ i o t c b h.
      fails t c (h.4, subst (λ x. Holds ks t x c) (second a o h.2) h.5) (stops_at ks 3 c CloseParen h.6 (omega arith))),
)

pub aligned_left_open : (ks : List Kind) → (y : Bool) → (a : ℕ) → kind_at ks a ≡ Align → starts_type (kind_at ks (a + 2)) ≡ false → (t : Tree) → (b : ℕ)
    → Only ks 3 (a + 2) t b → (kind_at ks b ≡ CloseParen → ⊥) → (n : ℕ) → FailsSpecifying ks y a (stop.Syntax n)
aligned_left_open ks y a k s t b only u n = (
  align_ends ks y a k,
  align_only ks y a k (stop.Syntax n)
      (λ i o t' c b' h. tree_not_type ks t' (a + 2) c s (subst (λ x. HoldsType ks t' x c) (second a o h.2) h.4))
      (λ i o t' c b' h.
      let same = only t' c (h.4, subst (λ x. Holds ks t' x c) (second a o h.2) h.5) (stops_at ks 3 c CloseParen h.6 (omega arith)) in
      u (ap (λ x. kind_at ks x) same.1 ∙ h.6)),
)

pub aligned_found : (ks : List Kind) → (y : Bool) → (a : ℕ) → (s : Specifying) → (t : Tree) → (c : ℕ) → kind_at ks a ≡ Align
    → kind_at ks (a + 1) ≡ OpenParen → s ≡ Aligned_of a (a + 1) t c → Found ks 3 (a + 2) t c → kind_at ks c ≡ CloseParen → c < length ks
    → FoundSpecifying ks y a s (c + 1) × (y ≡ (has_type ks s || y))
aligned_found ks y a s t c k o e found l i =
    let one : a + 2 < c = found.forth in
    let two : a + 2 ≡ (a + 1) + 1 = omega arith in (
      record {
        reads =
            subst (λ x. HoldSpecifying ks y x a (c + 1)) (sym e)
            (refl, k, refl, o, found.reads.0, subst (λ x. Holds ks t x c) two found.reads.1, l, refl);
        forth = omega arith;
        inside = omega arith;
      },
      ap (λ x. has_type ks x || y) (sym e),
    )

-- `struct` or `union` with members
pub tag_stands : (ks : List Kind) → (a : ℕ) → is_word (kind_at ks a) ≡ true → braces_at ks a ≡ true → FoundTag ks a (Some a) (a + 1)
tag_stands ks a w h =
    let k : kind_at ks (a + 1) ≡ OpenBrace = tag_opens ks a h w in
    record { reads = (refl, w, refl); opens = k; forth = omega arith; inside = test_inside is_brace refl ks (a + 1) (is_a_brace (kind_at ks (a + 1)) k) }

pub no_tag_stands : (ks : List Kind) → (a : ℕ) → is_word (kind_at ks a) ≡ false → braces_at ks a ≡ true → FoundTag ks a None a
no_tag_stands ks a w h =
    let k : kind_at ks a ≡ OpenBrace = opens_here ks a h w in
    record { reads = refl; opens = k; forth = omega arith; inside = test_inside is_brace refl ks a (is_a_brace (kind_at ks a) k) }

pub structure_found : (ks : List Kind) → (y : Bool) → (a : ℕ) → (s : Specifying) → (g : Option ℕ) → (o : ℕ) → (ms : Members) → (c : ℕ)
    → kind_at ks a ≡ Tag → s ≡ Members_of a g o ms c → FoundTag ks (a + 1) g o → FoundMembers ks (o + 1) ms c
    → FoundSpecifying ks y a s (c + 1) × (true ≡ (has_type ks s || y))
structure_found ks y a s g o ms c k e tag found =
    let one : a + 1 ≤ o = tag.forth in
    let two : o + 1 < c = found.forth in
    let three : c < length ks = found.inside in (
      record {
        reads =
            subst (λ x. HoldSpecifying ks y x a (c + 1)) (sym e)
            (refl, k, tag.reads, tag.opens, found.some, found.reads, found.closes, refl);
        forth = omega arith;
        inside = omega arith;
      },
      ap (λ x. has_type ks x || y) (sym e),
    )

list_only : (ks : List Kind) → (y : Bool) → (a : ℕ) → is_tagging (kind_at ks a) ≡ true → braces_at ks (a + 1) ≡ true → (e : Stop)
    → ((k : ℕ) → (g : Option ℕ) → (o : ℕ) → (ms : Members) → (c b : ℕ) → HoldSpecifying ks y (Members_of k g o ms c) a b → IsWant e)
    → ((k : ℕ) → (g : Option ℕ) → (o : ℕ) → (el : Enumerator) → (es : Enumerators) → (t : Option ℕ) → (c b : ℕ)
    → HoldSpecifying ks y (Enumerators_of k g o el es t c) a b → IsWant e)
    → (s : Specifying) → (b : ℕ) → HoldSpecifying ks y s a b → IsWant e
list_only ks y a k m e f g (Word_of n) b h =
    let other = tagging_unspecified (kind_at ks a) k in
    specifies_not ks a (kind_at ks a) h.1 refl other.0 other.1
list_only ks y a k m e f g (Typedef_of n) b h = absurd (true≢false (sym h.2 ∙ tagging_untyped (kind_at ks a) k))
list_only ks y a k m e f g (Tag_of i n) b h =
    let w : is_word (kind_at ks (a + 1)) ≡ true = ap (λ x. is_word (kind_at ks x)) (sym h.2) ∙ h.3 in
    let end : b ≡ (a + 1) + 1 = h.4 ∙ ap (λ x. x + 1) h.2 in
    absurd (h.5 (ap (λ x. kind_at ks x) end ∙ tag_opens ks (a + 1) m w))
list_only ks y a k m e f g (Atomic_of i p t c) b h = tagging_atomic_not (kind_at ks a) k h.1
list_only ks y a k m e f g (Aligned_as_of i p t c) b h = absurd (tagging_aligned_not (kind_at ks a) k h.1)
list_only ks y a k m e f g (Aligned_of i p t c) b h = absurd (tagging_aligned_not (kind_at ks a) k h.1)
list_only ks y a k m e f g (Members_of i x p ms c) b h = f i x p ms c b h
list_only ks y a k m e f g (Enumerators_of i x p el es t c) b h = g i x p el es t c b h

pub structure_fails : (ks : List Kind) → (y : Bool) → (a : ℕ) → kind_at ks a ≡ Tag → braces_at ks (a + 1) ≡ true → (g : Option ℕ) → (o : ℕ)
    → FoundTag ks (a + 1) g o → (e : Stop) → FailsMembers ks (o + 1) e → FailsSpecifying ks y a e
structure_fails ks y a k m g o tag e fails = (
  ap (λ x. ends_specifiers x y) k,
  list_only ks y a (ap is_tagging k) m e
      (λ i g' o' ms c b h.
      let same = tag_same ks g (a + 1) o tag.reads tag.opens g' o' h.2 h.3 in
      fails ms c h.4 (subst (λ x. HoldMembers ks ms (x + 1) c) (sym same.1) h.5) h.6)
      (λ i g' o' el es t c b h. clash (kind_at ks a) Tag Enum k h.3 (λ x. omega (arith, x))),
)

-- `enum` with enumerators
abbrev pub FailsList : List Kind → ℕ → Stop → Type 0
FailsList ks a e =
    (x : Enumerator) → (m : ℕ) → (es : Enumerators) → (n : ℕ) → (t : Option ℕ) → (c : ℕ) → HoldsEnumerator ks x a m → HoldEnumerators ks es m n
    → HoldsComma ks t n c → kind_at ks c ≡ CloseBrace → IsWant e

pub enumeration_fails : (ks : List Kind) → (y : Bool) → (a : ℕ) → kind_at ks a ≡ Enum → braces_at ks (a + 1) ≡ true → (g : Option ℕ) → (o : ℕ)
    → FoundTag ks (a + 1) g o → (e : Stop) → FailsList ks (o + 1) e → FailsSpecifying ks y a e
enumeration_fails ks y a k m g o tag e fails = (
  ap (λ x. ends_specifiers x y) k,
  list_only ks y a (ap is_tagging k) m e
      (λ i g' o' ms c b h. clash (kind_at ks a) Enum Tag k h.1 (λ x. omega (arith, x)))
      (λ i g' o' el es t c b h.
      let same = tag_same ks g (a + 1) o tag.reads tag.opens g' o' h.4 h.5 in
      fails el h.0 es h.1 t c (subst (λ x. HoldsEnumerator ks el (x + 1) h.0) (sym same.1) h.6) h.7 h.8 h.9),
)

pub enumeration_found : (ks : List Kind) → (y : Bool) → (a : ℕ) → (s : Specifying) → (g : Option ℕ) → (o : ℕ) → (x : Enumerator) → (m : ℕ)
    → (es : Enumerators) → (t : Option ℕ) → (c : ℕ) → kind_at ks a ≡ Enum → s ≡ Enumerators_of a g o x es t c → FoundTag ks (a + 1) g o
    → FoundEnumerator ks (o + 1) x m → FoundEnumerators ks m es t c → kind_at ks c ≡ CloseBrace → c < length ks
    → FoundSpecifying ks y a s (c + 1) × (true ≡ (has_type ks s || y))
enumeration_found ks y a s g o x m es t c k e tag one list l i =
    let first : a + 1 ≤ o = tag.forth in
    let second : o + 1 < m = one.forth in
    let third : m ≤ c = list.forth in (
      record {
        reads =
            subst (λ z. HoldSpecifying ks y z a (c + 1)) (sym e)
            (m, list.behind, refl, k, tag.reads, tag.opens, one.reads, list.reads, list.comma, l, refl);
        forth = omega arith;
        inside = omega (arith, i);
      },
      ap (λ z. has_type ks z || y) (sym e),
    )

-- what the loop keeps
pub record SpecifiersLeft (ks : List Kind) (y : Bool) (done : List Specifying) (at : ℕ) (ss : Specifyings) (m : ℕ) : Type 0 where
  pub left : Specifyings
  pub is : ss ≡ specifyings done left
  pub holds : HoldSpecifyings ks y left at m

pub record Specifiers (ks : List Kind) (n : Site) (start : ℕ) (done : List Specifying) (at : ℕ) (y : Bool) : Type 0 where
  pub grows : (ss : Specifyings) → (b : ℕ) → HoldSpecifyings ks y ss at b → HoldSpecifyings ks false (specifyings done ss) start b
  pub only : (ss : Specifyings) → (b : ℕ) → HoldSpecifyings ks false ss start b → ends_specifiers (kind_at ks b) (typed_by ks false ss) ≡ true
      → SpecifiersLeft ks y done at ss b
  pub counts : (ss : Specifyings) → typed_by ks y ss ≡ typed_by ks false (specifyings done ss)
  pub fits : (ss : Specifyings) → MayStand ks n ss → MayStand ks n (specifyings done ss)
  pub forth : start ≤ at
  pub inside : at ≤ length ks

pub specifiers_start : (ks : List Kind) → (n : Site) → (at : ℕ) → at ≤ length ks → Specifiers ks n at [] at false
specifiers_start ks n at i = record {
  grows = λ ss b h. h;
  only = λ ss b h e. record { left = ss; is = refl; holds = h };
  counts = λ ss. refl;
  fits = λ ss f. f;
  forth = omega arith;
  inside = i;
}

left_turns : (ks : List Kind) → (y : Bool) → (done : List Specifying) → (at : ℕ) → (s : Specifying) → (k : ℕ) → (z : Bool) → HoldSpecifying ks y s at k
    → z ≡ (has_type ks s || y) → (ss left : Specifyings) → (m : ℕ) → ss ≡ specifyings done left → HoldSpecifyings ks y left at m
    → ends_specifiers (kind_at ks m) (typed_by ks y left) ≡ true → SpecifiersLeft ks z (done ++ s ∷ []) k ss m
left_turns ks y done at s k z h f ss No_specifiers m is g e =
    no_specifying ks y s at k h (ap (λ x. ends_specifiers (kind_at ks x) y) (sym g) ∙ e)
left_turns ks y done at s k z h f ss (Specifier_then s' left) m is g e =
    let one = one_only ks y s at k h s' g.0 g.1 in
    record {
      left = left;
      is = is ∙ ap (λ x. specifyings done (Specifier_then x left)) (sym one.0) ∙ sym (specifyings_snoc done s left);
      holds =
          subst
          (λ x. HoldSpecifyings ks x left k m)
          (ap (λ x. has_type ks x || y) (sym one.0) ∙ sym f)
          (subst (λ x. HoldSpecifyings ks (has_type ks s' || y) left x m) (sym one.1) g.2);
    }

-- a specifier begins with its first token
first_at : (ks : List Kind) → (y : Bool) → (s : Specifying) → (a b : ℕ) → HoldSpecifying ks y s a b → first_in s ≡ a
first_at ks y (Word_of n) a b h = h.0
first_at ks y (Typedef_of n) a b h = h.0
first_at ks y (Tag_of k n) a b h = h.0
first_at ks y (Atomic_of k o t c) a b h = h.0
first_at ks y (Aligned_as_of k o t c) a b h = h.0
first_at ks y (Aligned_of k o t c) a b h = h.0
first_at ks y (Members_of k g o ms c) a b h = h.0
first_at ks y (Enumerators_of k g o e es t c) a b h = h.2

one_may : (ks : List Kind) → (n : Site) → (y : Bool) → (s : Specifying) → (a b : ℕ) → HoldSpecifying ks y s a b → stored_amiss ks a n ≡ false
    → admits n (kind_at ks (first_in s)) ≡ true
one_may ks n y s a b h f = ap (λ x. admits n (kind_at ks x)) (first_at ks y s a b h) ∙ amiss_admitted ks a n f

both_hold : (p q : Bool) → p ≡ true → q ≡ true → (p && q) ≡ true
both_hold true q h g = g
both_hold false q h g = absurd (true≢false (sym h))

may_then : (ks : List Kind) → (n : Site) → (s : Specifying) → (ss : Specifyings) → admits n (kind_at ks (first_in s)) ≡ true → MayStand ks n ss
    → MayStand ks n (Specifier_then s ss)
may_then ks n s ss one more = both_hold (admits n (kind_at ks (first_in s))) (all_admitted ks n ss) one more

-- all may stand in a declaration
pub all_stand : (ks : List Kind) → (ss : Specifyings) → MayStand ks OfDeclaration ss
all_stand ks No_specifiers = refl
all_stand ks (Specifier_then s ss) = all_stand ks ss

-- where all of them may end, those that are left may
left_ends : (ks : List Kind) → (n : Site) → (start : ℕ) → (done : List Specifying) → (at : ℕ) → (y : Bool) → Specifiers ks n start done at y
    → (ss left : Specifyings) → (m : ℕ) → ss ≡ specifyings done left → ends_specifiers (kind_at ks m) (typed_by ks false ss) ≡ true
    → ends_specifiers (kind_at ks m) (typed_by ks y left) ≡ true
left_ends ks n start done at y loop ss left m is e =
    ap (λ t. ends_specifiers (kind_at ks m) t) (loop.counts left ∙ ap (λ xs. typed_by ks false xs) (sym is)) ∙ e

specifiers_turn : (ks : List Kind) → (n : Site) → (start : ℕ) → (done : List Specifying) → (at : ℕ) → (y : Bool) → (s : Specifying) → (m : ℕ) → (z : Bool)
    → Specifiers ks n start done at y → stored_amiss ks at n ≡ false → FoundSpecifying ks y at s m × (z ≡ (has_type ks s || y))
    → Specifiers ks n start (done ++ s ∷ []) m z
specifiers_turn ks n start done at y s m z loop told found =
    let one : start ≤ at = loop.forth in
    let two : at < m = found.0.forth in
    record {
      grows = λ ss b g.
          subst
          (λ xs. HoldSpecifyings ks false xs start b)
          (sym (specifyings_snoc done s ss))
          (loop.grows (Specifier_then s ss) b (m, found.0.reads, subst (λ x. HoldSpecifyings ks x ss m b) found.1 g));
      only = λ ss b h e.
          let a = loop.only ss b h e in
          left_turns ks y done at s m z found.0.reads found.1 ss a.left b a.is a.holds (left_ends ks n start done at y loop ss a.left b a.is e);
      counts = λ ss.
          ap (λ t. typed_by ks t ss) found.1
          ∙ loop.counts (Specifier_then s ss)
          ∙ ap (λ xs. typed_by ks false xs) (sym (specifyings_snoc done s ss));
      fits = λ ss f.
          subst
          (λ xs. MayStand ks n xs)
          (sym (specifyings_snoc done s ss))
          (loop.fits (Specifier_then s ss) (may_then ks n s ss (one_may ks n y s at m found.0.reads told) f));
      forth = omega arith;
      inside = found.0.inside;
    }

pub specifiers_push : (ks : List Kind) → (n : Site) → (start : ℕ) → (items more : List Specifier) → (at : ℕ) → (y : Bool) → (s : Specifier) → (m : ℕ) → (z : Bool)
    → Specifiers ks n start (specifiers_of items) at y → stored_amiss ks at n ≡ false → FoundSpecifying ks y at (specifier_of s) m × (z ≡ (has_type ks (specifier_of s) || y))
    → more ≡ items ++ s ∷ [] → Specifiers ks n start (specifiers_of more) m z
specifiers_push ks n start items more at y s m z loop told found grown =
    subst
    (λ xs. Specifiers ks n start xs m z)
    (sym (ap specifiers_of grown ∙ map-append specifier_of items (s ∷ [])))
    (specifiers_turn ks n start (specifiers_of items) at y (specifier_of s) m z loop told found)

pub specifiers_end : (ks : List Kind) → (n : Site) → (start : ℕ) → (done : List Specifying) → (at : ℕ) → (y : Bool) → Specifiers ks n start done at y
    → FoundSpecifiers ks n start (specifyings done No_specifiers) at
specifiers_end ks n start done at y loop = record {
  reads = loop.grows No_specifiers at refl;
  fits = loop.fits No_specifiers refl;
  forth = loop.forth;
  inside = loop.inside;
}

pub specifiers_told : (ks : List Kind) → (n : Site) → (start : ℕ) → (done : List Specifying) → (at : ℕ) → (y : Bool) → Specifiers ks n start done at y
    → y ≡ typed_by ks false (specifyings done No_specifiers)
specifiers_told ks n start done at y loop = loop.counts No_specifiers

-- a call that reads specifiers has this for all that stand there
abbrev pub OnlySpecifiers : List Kind → Site → ℕ → Specifyings → ℕ → Type 0
OnlySpecifiers ks n a ss m =
    (ss' : Specifyings) → (m' : ℕ) → HoldSpecifyings ks false ss' a m' → MayStand ks n ss'
    → ends_specifiers (kind_at ks m') (typed_by ks false ss') ≡ true → (ss ≡ ss') × (m ≡ m')

abbrev pub FailsSpecifiers : List Kind → Site → ℕ → Stop → Type 0
FailsSpecifiers ks n a e =
    (ss : Specifyings) → (m : ℕ) → HoldSpecifyings ks false ss a m → MayStand ks n ss → ends_specifiers (kind_at ks m) (typed_by ks false ss) ≡ true
    → IsWant e

no_more_left : (ks : List Kind) → (y : Bool) → (done : List Specifying) → (at : ℕ) → NoMore ks y at → (ss left : Specifyings) → (m : ℕ)
    → ss ≡ specifyings done left → HoldSpecifyings ks y left at m → (specifyings done No_specifiers ≡ ss) × (at ≡ m)
no_more_left ks y done at n ss No_specifiers m is h = (sym is, sym h)
no_more_left ks y done at n ss (Specifier_then s left) m is h = absurd (n s h.0 h.1)

pub specifiers_only : (ks : List Kind) → (n : Site) → (start : ℕ) → (done : List Specifying) → (at : ℕ) → (y : Bool) → Specifiers ks n start done at y
    → NoMore ks y at → OnlySpecifiers ks n start (specifyings done No_specifiers) at
specifiers_only ks n start done at y loop none ss m h f e =
    let a = loop.only ss m h e in
    no_more_left ks y done at none ss a.left m a.is a.holds

stop_left : (ks : List Kind) → (y : Bool) → (at : ℕ) → (e : Stop) → FailsSpecifying ks y at e → (left : Specifyings) → (m : ℕ)
    → HoldSpecifyings ks y left at m → ends_specifiers (kind_at ks m) (typed_by ks y left) ≡ true → IsWant e
stop_left ks y at e fails No_specifiers m h f =
    absurd (true≢false (sym f ∙ ap (λ x. ends_specifiers (kind_at ks x) y) h ∙ fails.0))
stop_left ks y at e fails (Specifier_then s left) m h f = fails.1 s h.0 h.1

pub specifiers_fail : (ks : List Kind) → (n : Site) → (start : ℕ) → (done : List Specifying) → (at : ℕ) → (y : Bool) → Specifiers ks n start done at y
    → (e : Stop) → FailsSpecifying ks y at e → FailsSpecifiers ks n start e
specifiers_fail ks n start done at y loop e fails ss m h g f =
    let a = loop.only ss m h f in
    stop_left ks y at e fails a.left m a.holds (left_ends ks n start done at y loop ss a.left m a.is f)

-- what may not stand there
admitted_through : (ks : List Kind) → (n : Site) → (done : List Specifying) → (ss : Specifyings) → MayStand ks n (specifyings done ss) → MayStand ks n ss
admitted_through ks n [] ss h = h
admitted_through ks n (s ∷ done) ss h =
    admitted_through ks n done ss (right_of (admits n (kind_at ks (first_in s))) (all_admitted ks n (specifyings done ss)) h)

ends_admitted : (n : Site) → (k : Kind) → (y : Bool) → ends_specifiers k y ≡ true → admits n k ≡ true
ends_admitted OfDeclaration k y h = refl
ends_admitted OfMember Storage y h = absurd (true≢false (sym h))
ends_admitted OfMember Static y h = absurd (true≢false (sym h))
ends_admitted OfMember Typedef y h = absurd (true≢false (sym h))
ends_admitted OfMember _ y h = refl
ends_admitted OfName Storage y h = absurd (true≢false (sym h))
ends_admitted OfName Static y h = absurd (true≢false (sym h))
ends_admitted OfName Typedef y h = absurd (true≢false (sym h))
ends_admitted OfName Align y h = absurd (true≢false (sym h))
ends_admitted OfName _ y h = refl

amiss_left : (ks : List Kind) → (n : Site) → (y : Bool) → (done : List Specifying) → (at : ℕ) → stored_amiss ks at n ≡ true → (ss left : Specifyings)
    → (m : ℕ) → ss ≡ specifyings done left → HoldSpecifyings ks y left at m → MayStand ks n ss
    → ends_specifiers (kind_at ks m) (typed_by ks y left) ≡ true → ⊥
amiss_left ks n y done at told ss No_specifiers m is h g f =
    true≢false
    (sym (ends_admitted n (kind_at ks at) y (ap (λ x. ends_specifiers (kind_at ks x) y) (sym h) ∙ f)) ∙ amiss_refused ks at n told)
amiss_left ks n y done at told ss (Specifier_then s left) m is h g f =
    let rest : MayStand ks n (Specifier_then s left) = admitted_through ks n done (Specifier_then s left) (subst (λ x. MayStand ks n x) is g) in
    let one = left_of (admits n (kind_at ks (first_in s))) (all_admitted ks n left) rest in
    true≢false (sym one ∙ ap (λ x. admits n (kind_at ks x)) (first_at ks y s at h.0 h.1) ∙ amiss_refused ks at n told)

pub specifiers_refused : (ks : List Kind) → (n : Site) → (start : ℕ) → (done : List Specifying) → (at : ℕ) → (y : Bool) → Specifiers ks n start done at y
    → stored_amiss ks at n ≡ true → (k : ℕ) → FailsSpecifiers ks n start (stop.Syntax k)
specifiers_refused ks n start done at y loop told k ss m h g f =
    let a = loop.only ss m h f in
    amiss_left ks n y done at told ss a.left m a.is a.holds g (left_ends ks n start done at y loop ss a.left m a.is f)

-- specifiers and a declarator
abbrev pub FailsNaming : List Kind → Bool → ℕ → Stop → Type 0
FailsNaming ks y a e = (t : Naming) → (c : ℕ) → HoldsNaming ks y t a c → ends_type (kind_at ks c) ≡ true → IsWant e

abbrev NoType : List Kind → Bool → ℕ → Type 0
NoType ks y a = (t : Naming) → (c : ℕ) → HoldsNaming ks y t a c → ends_type (kind_at ks c) ≡ true → ⊥

pub specifiers_missing : (ks : List Kind) → (y : Bool) → (a : ℕ) → (e : Stop) → FailsSpecifiers ks (site_of y) a e → FailsNaming ks y a e
specifiers_missing ks y a e fails (Type_of ss d) c h f = fails ss h.0 h.2 h.4 (declaring_begins ks y (typed_by ks false ss) d h.0 c h.3 f)

no_type_without : (ks : List Kind) → (y : Bool) → (a m : ℕ) → OnlySpecifiers ks (site_of y) a No_specifiers m → NoType ks y a
no_type_without ks y a m only (Type_of ss d) c h f =
    subst AreSome (sym (only ss h.0 h.2 h.4 (declaring_begins ks y (typed_by ks false ss) d h.0 c h.3 f)).0) h.1

pub none_specifying : (ks : List Kind) → (y : Bool) → (a m : ℕ) → (xs : List Specifier) → (length xs == 0) ≡ true
    → OnlySpecifiers ks (site_of y) a (specifyings (specifiers_of xs) No_specifiers) m → NoType ks y a
none_specifying ks y a m [] h only = no_type_without ks y a m only
none_specifying ks y a m (x ∷ xs) h only = λ t c g e. grind (arith, h)

pub declarator_missing : (ks : List Kind) → (y : Bool) → (a : ℕ) → (ss : Specifyings) → (m : ℕ) → OnlySpecifiers ks (site_of y) a ss m → (n : Named)
    → n ≡ named_by y (typed_by ks false ss) → (e : Stop)
    → ((d : Declaring) → (c : ℕ) → HoldsDeclaring ks n d m c → ends_type (kind_at ks c) ≡ true → IsWant e) → FailsNaming ks y a e
declarator_missing ks y a ss m only n is e fails (Type_of ss' d) c h f =
    let same = only ss' h.0 h.2 h.4 (declaring_begins ks y (typed_by ks false ss') d h.0 c h.3 f) in
    fails d c (named_moved ks y n ss ss' m h.0 c d is same.0 same.1 h.3) f

pub some_specifying : (xs : List Specifier) → (length xs == 0) ≡ false → AreSome (specifyings (specifiers_of xs) No_specifiers)
some_specifying [] h = absurd (true≢false h)
some_specifying (x ∷ xs) h = tt

some_forth : (ks : List Kind) → (ss : Specifyings) → (a m : ℕ) → AreSome ss → HoldSpecifyings ks false ss a m → a ≡ m → ⊥
some_forth ks No_specifiers a m i h e = i
some_forth ks (Specifier_then s ss) a m i h e =
    omega (arith, specifying_strict ks false s a h.0 h.1, specifyings_forth ks (has_type ks s || false) ss h.0 m h.2, e)

pub naming_found : (ks : List Kind) → (y : Bool) → (a : ℕ) → (ss : Specifyings) → (m : ℕ) → (d : Declaring) → (b : ℕ) → AreSome ss → FoundSpecifiers ks (site_of y) a ss m
    → (n : Named) → n ≡ named_by y (typed_by ks false ss) → FoundDeclaring ks n m d b → FoundNaming ks y a (Type_of ss d) b
naming_found ks y a ss m d b some x n is u =
    let one : a ≤ m = x.forth in
    let two : m ≤ b = u.forth in
    let not : a ≡ m → ⊥ = some_forth ks ss a m some x.reads in
    record {
      reads = (m, some, x.reads, subst (λ v. HoldsDeclaring ks v d m b) is u.reads, x.fits);
      forth = omega arith;
      inside = u.inside;
    }

pub name_only : (ks : List Kind) → (y : Bool) → (a : ℕ) → (ss : Specifyings) → (m : ℕ) → (d : Declaring) → (b : ℕ) → OnlySpecifiers ks (site_of y) a ss m
    → (n : Named) → n ≡ named_by y (typed_by ks false ss)
    → ((d' : Declaring) → (c : ℕ) → HoldsDeclaring ks n d' m c → ends_type (kind_at ks c) ≡ true → (d ≡ d') × (b ≡ c))
    → (t : Naming) → (c : ℕ) → HoldsNaming ks y t a c → ends_type (kind_at ks c) ≡ true → (Type_of ss d ≡ t) × (b ≡ c)
name_only ks y a ss m d b one n is two (Type_of ss' d') c h f =
    let first = one ss' h.0 h.2 h.4 (declaring_begins ks y (typed_by ks false ss') d' h.0 c h.3 f) in
    let more = two d' c (named_moved ks y n ss ss' m h.0 c d' is first.0 first.1 h.3) f in
    (ap (λ x. Type_of x d) first.0 ∙ ap (λ x. Type_of ss' x) more.0, more.1)
