-- No two specifiers, lists of them, static assertions or members stand from one place on.
use Rattle.std.proofs.Common.{◌≡◌, refl, ap, sym, ◌∙◌, subst, ℕ, ◌+◌, ◌<◌, ◌≤◌, List, arith, Option, Some, None, Bool, true, false, not, true≢false, ◌||◌}
use Rattle.tree_data.specs.Trees.{Tree, Declaring, Specifying, Word_of, Typedef_of, Tag_of, Atomic_of, Aligned_as_of, Aligned_of, Members_of, Enumerators_of, Specifyings, No_specifiers, Specifier_then, Naming, Member, Bare_of, Fields_of, Asserted_of, Members, No_members, Member_then, Field, Declared_of, Bits_of, Padding_of, Fields, No_fields, Field_then, Assertion, Assertion_of, Enumerator, Counted_of, Given_of, Enumerators, No_enumerators, Enumerator_then}
use Rattle.c_parser.specs.declared.kinds.Kind.{Kind}
use Rattle.c_parser.specs.declared.kinds.Kind.TheVariants.{Identifier, TypeName, Tag, Atomic, Align, Assert, Star, OpenParen, CloseParen, OpenBracket, OpenBrace, CloseBrace, Colon, Comma, Semicolon, Equals, End, Enum}
use Rattle.c_parser.specs.Grammar.{AreSome, has_type, typed_by}
use Rattle.c_parser.specs.Kinds.{kind_at, starts_type, ends_type, ends_specifiers, is_word, is_typedef, is_tagging, is_opening, is_equals}
use Rattle.c_parser.specs.EnumeratorsFound.{ends_enumerator}
use Rattle.c_parser.specs.MembersFound.{ends_field}
use Rattle.c_parser.specs.Reading.{Holds, HoldTexts, HoldsTag, HoldSpecifying, HoldSpecifyings, HoldsMember, HoldMembers, HoldsField, HoldFields, HoldsAssertion, HoldsDeclarator, HoldsType, Reads, Stops, HoldsComma, HoldsEnumerator, HoldEnumerators}
use Rattle.c_parser.proofs.Forth.{tree_forth, type_forth, specifyings_forth, members_forth, member_forth, field_forth, fields_forth, declarator_forth, tag_forth, enumerator_forth, enumerators_forth, comma_forth}
use Rattle.c_parser.proofs.Marks.{clash, stops_at, no_type}
use Rattle.c_parser.proofs.NamedReading.{declarator_only, declarator_starts, declarator_next, starts_declarator}
use Rattle.c_parser.proofs.OneReading.{placed_only}
use Rattle.c_parser.proofs.SameParts.{texts_only}
use Rattle.c_parser.proofs.Typed.{From, later, next}
use Rattle.c_parser.proofs.Types.{starting, naming_starts}
use Rattle.c_parser.proofs.Views.{starts}
use Rattle.c_parser.proofs.Words.{class_of, specifies_class, typedef_class, tagging_class, tagging_untyped, typedef_not, specifies_untyped}

-- a static assertion
pub assertion_only : (ks : List Kind) → (x : Assertion) → (a b : ℕ) → From ks a → HoldsAssertion ks x a b → (x' : Assertion) → (b' : ℕ)
    → HoldsAssertion ks x' a b' → (x ≡ x') × (b ≡ b')
assertion_only ks (Assertion_of k o t c ns p e) a b w h (Assertion_of k' o' t' c' ns' p' e') b' h' =
    let one : o ≡ o' = h.2 ∙ sym h'.2 in
    let test =
    placed_only ks 3 t (o + 1) c (later ks a (o + 1) (omega (arith, h.2)) w) (omega arith) (h.4, h.5) (stops_at ks 3 c Comma h.6 (omega arith)) t' c'
    (h'.4, subst (λ x. Holds ks t' (x + 1) c') (sym one) h'.5) (stops_at ks 3 c' Comma h'.6 (omega arith)) in
    let text = texts_only ks ns (c + 1) p h.8 ns' p' (subst (λ x. HoldTexts ks ns' (x + 1) p') (sym test.1) h'.8) in
    let last : e ≡ e' = h.10 ∙ ap (λ x. x + 1) text.1 ∙ sym h'.10 in (
      ap (λ x. Assertion_of x o t c ns p e) (h.0 ∙ sym h'.0)
          ∙ ap (λ x. Assertion_of k' x t c ns p e) one
          ∙ ap (λ x. Assertion_of k' o' x c ns p e) test.0
          ∙ ap (λ x. Assertion_of k' o' t' x ns p e) test.1
          ∙ ap (λ x. Assertion_of k' o' t' c' x p e) text.0
          ∙ ap (λ x. Assertion_of k' o' t' c' ns' x e) text.1
          ∙ ap (λ x. Assertion_of k' o' t' c' ns' p' x) last,
      h.12 ∙ ap (λ x. x + 1) last ∙ sym h'.12,
    )

pub asserted_first : (ks : List Kind) → (x : Assertion) → (a b : ℕ) → HoldsAssertion ks x a b → kind_at ks a ≡ Assert
asserted_first ks (Assertion_of k o t c ns p e) a b h = h.1

-- declarators of members
pub field_type : (k : Kind) → ends_field k ≡ true → ends_type k ≡ true
field_type Comma h = refl
field_type Semicolon h = refl
field_type _ h = absurd (true≢false (sym h))

pub field_colon_not : {A : Type 0} → (k : Kind) → ends_field k ≡ true → k ≡ Colon → A
field_colon_not k h e = absurd (true≢false (sym h ∙ ap ends_field e))

field_ends_by : (ks : List Kind) → (b : ℕ) → (k : Kind) → kind_at ks b ≡ k → ends_field k ≡ true → Stops ks 3 b
field_ends_by ks b Comma e h = stops_at ks 3 b Comma e (omega arith)
field_ends_by ks b Semicolon e h = stops_at ks 3 b Semicolon e (omega arith)
field_ends_by ks b _ e h = absurd (true≢false (sym h))

pub field_stops : (ks : List Kind) → (b : ℕ) → ends_field (kind_at ks b) ≡ true → Stops ks 3 b
field_stops ks b h = field_ends_by ks b (kind_at ks b) refl h

pub declarator_colon_not : {A : Type 0} → (ks : List Kind) → (y : Bool) → (d : Declaring) → (a b : ℕ) → HoldsDeclarator ks y d a b
    → kind_at ks a ≡ Colon → A
declarator_colon_not ks y d a b h k = absurd (true≢false (sym (declarator_starts ks y d a b h) ∙ ap starts_declarator k))

width_only : (ks : List Kind) → (t : Tree) → (a b : ℕ) → From ks a → Reads ks 3 t a b → ends_field (kind_at ks b) ≡ true
    → (t' : Tree) → (b' : ℕ) → Reads ks 3 t' a b' → ends_field (kind_at ks b') ≡ true → (t ≡ t') × (b ≡ b')
width_only ks t a b w r e t' b' r' e' = placed_only ks 3 t a b w (omega arith) r (field_stops ks b e) t' b' r' (field_stops ks b' e')

pub field_only : (ks : List Kind) → (y : Bool) → (f : Field) → (a b : ℕ) → From ks a → HoldsField ks y f a b → ends_field (kind_at ks b) ≡ true
    → (f' : Field) → (b' : ℕ) → HoldsField ks y f' a b' → ends_field (kind_at ks b') ≡ true → (f ≡ f') × (b ≡ b')
field_only ks y (Declared_of d) a b w h e (Declared_of d') b' h' e' =
    let same = declarator_only ks y d a b w h (field_type (kind_at ks b) e) d' b' h' (field_type (kind_at ks b') e') in
    (ap Declared_of same.0, same.1)
field_only ks y (Declared_of d) a b w h e (Bits_of d' c' t') b' h' e' =
    let same = declarator_only ks y d a b w h (field_type (kind_at ks b) e) d' c' h'.0 (ap ends_type h'.1) in
    field_colon_not (kind_at ks b) e (ap (λ x. kind_at ks x) same.1 ∙ h'.1)
field_only ks y (Declared_of d) a b w h e (Padding_of c' t') b' h' e' = declarator_colon_not ks y d a b h h'.1
field_only ks y (Bits_of d c t) a b w h e (Declared_of d') b' h' e' =
    let same = declarator_only ks y d' a b' w h' (field_type (kind_at ks b') e') d c h.0 (ap ends_type h.1) in
    field_colon_not (kind_at ks b') e' (ap (λ x. kind_at ks x) same.1 ∙ h.1)
field_only ks y (Bits_of d c t) a b w h e (Bits_of d' c' t') b' h' e' =
    let one = declarator_only ks y d a c w h.0 (ap ends_type h.1) d' c' h'.0 (ap ends_type h'.1) in
    let w' : From ks (c + 1) = later ks a (c + 1) (omega (arith, declarator_forth ks y d a c h.0)) w in
    let two = width_only ks t (c + 1) b w' (h.2, h.3) e t' b' (h'.2, subst (λ x. Holds ks t' (x + 1) b') (sym one.1) h'.3) e' in
    (ap (λ x. Bits_of x c t) one.0 ∙ ap (λ x. Bits_of d' x t) one.1 ∙ ap (λ x. Bits_of d' c' x) two.0, two.1)
field_only ks y (Bits_of d c t) a b w h e (Padding_of c' t') b' h' e' = declarator_colon_not ks y d a c h.0 h'.1
field_only ks y (Padding_of c t) a b w h e (Declared_of d') b' h' e' = declarator_colon_not ks y d' a b' h' h.1
field_only ks y (Padding_of c t) a b w h e (Bits_of d' c' t') b' h' e' = declarator_colon_not ks y d' a c' h'.0 h.1
field_only ks y (Padding_of c t) a b w h e (Padding_of c' t') b' h' e' =
    let two = width_only ks t (a + 1) b (next ks a w) (h.2, h.3) e t' b' (h'.2, h'.3) e' in
    (ap (λ x. Padding_of x t) (h.0 ∙ sym h'.0) ∙ ap (λ x. Padding_of c' x) two.0, two.1)

pub fields_end : (ks : List Kind) → (fs : Fields) → (m b : ℕ) → HoldFields ks fs m b → kind_at ks b ≡ Semicolon → ends_field (kind_at ks m) ≡ true
fields_end ks No_fields m b h e = ap ends_field (ap (λ x. kind_at ks x) (sym h) ∙ e)
fields_end ks (Field_then o f fs) m b h e = ap ends_field h.2

pub fields_only : (ks : List Kind) → (fs : Fields) → (a b : ℕ) → From ks a → HoldFields ks fs a b → kind_at ks b ≡ Semicolon
    → (fs' : Fields) → (b' : ℕ) → HoldFields ks fs' a b' → kind_at ks b' ≡ Semicolon → (fs ≡ fs') × (b ≡ b')
fields_only ks No_fields a b w h e No_fields b' h' e' = (refl, h ∙ sym h')
fields_only ks No_fields a b w h e (Field_then o f fs) b' h' e' =
    clash (kind_at ks a) Semicolon Comma (ap (λ x. kind_at ks x) (sym h) ∙ e) h'.2 (λ x. omega (arith, x))
fields_only ks (Field_then o f fs) a b w h e No_fields b' h' e' =
    clash (kind_at ks a) Semicolon Comma (ap (λ x. kind_at ks x) (sym h') ∙ e') h.2 (λ x. omega (arith, x))
fields_only ks (Field_then o f fs) a b w h e (Field_then o' f' fs') b' h' e' =
    let one =
    field_only ks false f (a + 1) h.0 (next ks a w) h.3 (fields_end ks fs h.0 b h.4 e) f' h'.0 h'.3 (fields_end ks fs' h'.0 b' h'.4 e') in
    let w' : From ks h.0 = later ks a h.0 (omega (arith, field_forth ks false f (a + 1) h.0 h.3)) w in
    let two = fields_only ks fs h.0 b w' h.4 e fs' b' (subst (λ x. HoldFields ks fs' x b') (sym one.1) h'.4) e' in (
      ap (λ x. Field_then x f fs) (h.1 ∙ sym h'.1) ∙ ap (λ x. Field_then o' x fs) one.0 ∙ ap (λ x. Field_then o' f' x) two.0,
      two.1,
    )

-- specifiers end in front of these
pub field_next : (ks : List Kind) → (t : Bool) → (f : Field) → (a b : ℕ) → HoldsField ks (not t) f a b → ends_specifiers (kind_at ks a) t ≡ true
field_next ks t (Declared_of d) a b h = declarator_next ks t d a b h
field_next ks t (Bits_of d c w) a b h = declarator_next ks t d a c h.0
field_next ks t (Padding_of c w) a b h = ap (λ k. ends_specifiers k t) h.1

pub field_unended : {A : Type 0} → (ks : List Kind) → (y : Bool) → (f : Field) → (a b : ℕ) → HoldsField ks y f a b → kind_at ks a ≡ Semicolon → A
field_unended ks y (Declared_of d) a b h k = absurd (true≢false (sym (declarator_starts ks y d a b h) ∙ ap starts_declarator k))
field_unended ks y (Bits_of d c w) a b h k = absurd (true≢false (sym (declarator_starts ks y d a c h.0) ∙ ap starts_declarator k))
field_unended ks y (Padding_of c w) a b h k = clash (kind_at ks a) Colon Semicolon h.1 k (λ x. omega (arith, x))

-- what a member begins with
pub specifiers_start_type : (ks : List Kind) → (ss : Specifyings) → (a m : ℕ) → AreSome ss → HoldSpecifyings ks false ss a m
    → starts_type (kind_at ks a) ≡ true
specifiers_start_type ks No_specifiers a m i h = absurd i
specifiers_start_type ks (Specifier_then s ss) a m i h = starting ks false s a h.0 h.1

pub unasserted : {A : Type 0} → (ks : List Kind) → (ss : Specifyings) → (a m : ℕ) → AreSome ss → HoldSpecifyings ks false ss a m
    → kind_at ks a ≡ Assert → A
unasserted ks ss a m i h k = absurd (true≢false (sym (specifiers_start_type ks ss a m i h) ∙ ap starts_type k))

unclosed : {A : Type 0} → (ks : List Kind) → (ss : Specifyings) → (a m : ℕ) → AreSome ss → HoldSpecifyings ks false ss a m
    → kind_at ks a ≡ CloseBrace → A
unclosed ks ss a m i h k = absurd (true≢false (sym (specifiers_start_type ks ss a m i h) ∙ ap starts_type k))

pub member_not : {A : Type 0} → (ks : List Kind) → (x : Member) → (a b : ℕ) → HoldsMember ks x a b → kind_at ks a ≡ CloseBrace → A
member_not ks (Bare_of ss e) a b h k = unclosed ks ss a e h.0 h.1 k
member_not ks (Fields_of ss f fs e) a b h k = unclosed ks ss a h.0 h.2 h.3 k
member_not ks (Asserted_of x) a b h k =
    clash (kind_at ks a) Assert CloseBrace (asserted_first ks x a b h) k (λ y. omega (arith, y))

-- specifiers by their first token
abbrev class : Specifying → ℕ
class (Word_of n) = 0
class (Typedef_of n) = 1
class (Tag_of k n) = 2
class (Atomic_of k o t c) = 3
class (Aligned_as_of k o t c) = 4
class (Aligned_of k o t c) = 4
class (Members_of k g o ms c) = 2
class (Enumerators_of k g o e es t c) = 2

abbrev first : List Kind → ℕ → ℕ
first ks a = class_of (kind_at ks a) (is_opening (kind_at ks (a + 1)))

class_is : (ks : List Kind) → (y : Bool) → (s : Specifying) → (a b : ℕ) → HoldSpecifying ks y s a b → first ks a ≡ class s
class_is ks y (Word_of n) a b h = specifies_class ks a h.1
class_is ks y (Typedef_of n) a b h = typedef_class (kind_at ks a) (is_opening (kind_at ks (a + 1))) h.2
class_is ks y (Tag_of k n) a b h = tagging_class (kind_at ks a) (is_opening (kind_at ks (a + 1))) h.1
class_is ks y (Atomic_of k o t c) a b h =
    ap (λ x. class_of x (is_opening (kind_at ks (a + 1)))) h.1
    ∙ ap (λ x. class_of Atomic (is_opening x)) (ap (λ x. kind_at ks x) (sym h.2) ∙ h.3)
class_is ks y (Aligned_as_of k o t c) a b h = ap (λ x. class_of x (is_opening (kind_at ks (a + 1)))) h.1
class_is ks y (Aligned_of k o t c) a b h = ap (λ x. class_of x (is_opening (kind_at ks (a + 1)))) h.1
class_is ks y (Members_of k g o ms c) a b h = ap (λ x. class_of x (is_opening (kind_at ks (a + 1)))) h.1
class_is ks y (Enumerators_of k g o e es t c) a b h = ap (λ x. class_of x (is_opening (kind_at ks (a + 1)))) h.3

same_class : (ks : List Kind) → (y : Bool) → (s s' : Specifying) → (a b b' : ℕ) → HoldSpecifying ks y s a b → HoldSpecifying ks y s' a b'
    → class s ≡ class s'
same_class ks y s s' a b b' h h' = sym (class_is ks y s a b h) ∙ class_is ks y s' a b' h'

word_alike : (ks : List Kind) → (y : Bool) → (n a b : ℕ) → HoldSpecifying ks y (Word_of n) a b → (s : Specifying) → (b' : ℕ) → 0 ≡ class s
    → HoldSpecifying ks y s a b' → (Word_of n ≡ s) × (b ≡ b')
word_alike ks y n a b h (Word_of n') b' e h' = (ap Word_of (h.0 ∙ sym h'.0), h.2 ∙ sym h'.2)
word_alike ks y n a b h _ b' e h' = absurd (omega (arith, e))

typedef_alike : (ks : List Kind) → (y : Bool) → (n a b : ℕ) → HoldSpecifying ks y (Typedef_of n) a b → (s : Specifying) → (b' : ℕ) → 1 ≡ class s
    → HoldSpecifying ks y s a b' → (Typedef_of n ≡ s) × (b ≡ b')
typedef_alike ks y n a b h (Typedef_of n') b' e h' = (ap Typedef_of (h.0 ∙ sym h'.0), h.3 ∙ sym h'.3)
typedef_alike ks y n a b h _ b' e h' = absurd (omega (arith, e))

-- a tag has no `{` behind it
braced_not : {A : Type 0} → (ks : List Kind) → (g : Option ℕ) → (a o b : ℕ) → HoldsTag ks g (a + 1) o → kind_at ks o ≡ OpenBrace
    → is_word (kind_at ks (a + 1)) ≡ true → b ≡ (a + 1) + 1 → (kind_at ks b ≡ OpenBrace → ⊥) → A
braced_not ks None a o b h k w e n = absurd (true≢false (sym w ∙ ap is_word (ap (λ x. kind_at ks x) (sym h) ∙ k)))
braced_not ks (Some i) a o b h k w e n = absurd (n (ap (λ x. kind_at ks x) (e ∙ sym h.2) ∙ k))

tag_members_not : {A : Type 0} → (ks : List Kind) → (y : Bool) → (k n : ℕ) → (g : Option ℕ) → (o : ℕ) → (a b : ℕ) → HoldSpecifying ks y (Tag_of k n) a b
    → HoldsTag ks g (a + 1) o → kind_at ks o ≡ OpenBrace → A
tag_members_not ks y k n g o a b h t e =
    braced_not ks g a o b t e (ap (λ x. is_word (kind_at ks x)) (sym h.2) ∙ h.3) (h.4 ∙ ap (λ x. x + 1) h.2) h.5

tag_alike : (ks : List Kind) → (y : Bool) → (k n a b : ℕ) → HoldSpecifying ks y (Tag_of k n) a b → (s : Specifying) → (b' : ℕ) → 2 ≡ class s
    → HoldSpecifying ks y s a b' → (Tag_of k n ≡ s) × (b ≡ b')
tag_alike ks y k n a b h (Tag_of k' n') b' e h' =
    let same : n ≡ n' = h.2 ∙ sym h'.2 in
    (ap (λ x. Tag_of x n) (h.0 ∙ sym h'.0) ∙ ap (λ x. Tag_of k' x) same, h.4 ∙ ap (λ x. x + 1) same ∙ sym h'.4)
tag_alike ks y k n a b h (Members_of k' g o ms c) b' e h' = tag_members_not ks y k n g o a b h h'.2 h'.3
tag_alike ks y k n a b h (Enumerators_of k' g o el es t c) b' e h' = tag_members_not ks y k n g o a b h h'.4 h'.5
tag_alike ks y k n a b h _ b' e h' = absurd (omega (arith, e))

abbrev OnlyNaming : List Kind → ℕ → Naming → ℕ → Type 0
OnlyNaming ks a t c = (t' : Naming) → (c' : ℕ) → HoldsType ks t' a c' → kind_at ks c' ≡ CloseParen → (t ≡ t') × (c ≡ c')

atomic_alike : (ks : List Kind) → (y : Bool) → (k o : ℕ) → (t : Naming) → (c a b : ℕ) → HoldSpecifying ks y (Atomic_of k o t c) a b
    → OnlyNaming ks (o + 1) t c → (s : Specifying) → (b' : ℕ) → 3 ≡ class s → HoldSpecifying ks y s a b' → (Atomic_of k o t c ≡ s) × (b ≡ b')
atomic_alike ks y k o t c a b h only (Atomic_of k' o' t' c') b' e h' =
    let opening : o ≡ o' = h.2 ∙ sym h'.2 in
    let same = only t' c' (subst (λ x. HoldsType ks t' (x + 1) c') (sym opening) h'.4) h'.5 in (
      ap (λ x. Atomic_of x o t c) (h.0 ∙ sym h'.0)
          ∙ ap (λ x. Atomic_of k' x t c) opening
          ∙ ap (λ x. Atomic_of k' o' x c) same.0
          ∙ ap (λ x. Atomic_of k' o' t' x) same.1,
      h.6 ∙ ap (λ x. x + 1) same.1 ∙ sym h'.6,
    )
atomic_alike ks y k o t c a b h only _ b' e h' = absurd (omega (arith, e))

-- an expression begins with nothing that a type's name does
no_type_here : {A : Type 0} → (ks : List Kind) → (t : Naming) → (u : Tree) → (a o o' c c' : ℕ) → o ≡ a + 1 → o' ≡ a + 1 → HoldsType ks t (o + 1) c
    → Holds ks u (o' + 1) c' → A
no_type_here ks t u a o o' c c' e e' h g =
    let one = starts ks u (o' + 1) c' g in
    let two = naming_starts ks false t (o + 1) c h in
    absurd (true≢false (sym two ∙ ap (λ x. starts_type (kind_at ks (x + 1))) (e ∙ sym e') ∙ no_type (kind_at ks (o' + 1)) one))

aligned_as_alike : (ks : List Kind) → (y : Bool) → (k o : ℕ) → (t : Naming) → (c a b : ℕ) → HoldSpecifying ks y (Aligned_as_of k o t c) a b
    → OnlyNaming ks (o + 1) t c → (s : Specifying) → (b' : ℕ) → 4 ≡ class s → HoldSpecifying ks y s a b' → (Aligned_as_of k o t c ≡ s) × (b ≡ b')
aligned_as_alike ks y k o t c a b h only (Aligned_as_of k' o' t' c') b' e h' =
    let opening : o ≡ o' = h.2 ∙ sym h'.2 in
    let same = only t' c' (subst (λ x. HoldsType ks t' (x + 1) c') (sym opening) h'.4) h'.5 in (
      ap (λ x. Aligned_as_of x o t c) (h.0 ∙ sym h'.0)
          ∙ ap (λ x. Aligned_as_of k' x t c) opening
          ∙ ap (λ x. Aligned_as_of k' o' x c) same.0
          ∙ ap (λ x. Aligned_as_of k' o' t' x) same.1,
      h.6 ∙ ap (λ x. x + 1) same.1 ∙ sym h'.6,
    )
aligned_as_alike ks y k o t c a b h only (Aligned_of k' o' t' c') b' e h' = no_type_here ks t t' a o o' c c' h.2 h'.2 h.4 h'.5
aligned_as_alike ks y k o t c a b h only _ b' e h' = absurd (omega (arith, e))

abbrev OnlyConstant : List Kind → ℕ → Tree → ℕ → Type 0
OnlyConstant ks a t c = (t' : Tree) → (c' : ℕ) → Reads ks 3 t' a c' → kind_at ks c' ≡ CloseParen → (t ≡ t') × (c ≡ c')

aligned_alike : (ks : List Kind) → (y : Bool) → (k o : ℕ) → (t : Tree) → (c a b : ℕ) → HoldSpecifying ks y (Aligned_of k o t c) a b
    → OnlyConstant ks (o + 1) t c → (s : Specifying) → (b' : ℕ) → 4 ≡ class s → HoldSpecifying ks y s a b' → (Aligned_of k o t c ≡ s) × (b ≡ b')
aligned_alike ks y k o t c a b h only (Aligned_of k' o' t' c') b' e h' =
    let opening : o ≡ o' = h.2 ∙ sym h'.2 in
    let same = only t' c' (h'.4, subst (λ x. Holds ks t' (x + 1) c') (sym opening) h'.5) h'.6 in (
      ap (λ x. Aligned_of x o t c) (h.0 ∙ sym h'.0)
          ∙ ap (λ x. Aligned_of k' x t c) opening
          ∙ ap (λ x. Aligned_of k' o' x c) same.0
          ∙ ap (λ x. Aligned_of k' o' t' x) same.1,
      h.7 ∙ ap (λ x. x + 1) same.1 ∙ sym h'.7,
    )
aligned_alike ks y k o t c a b h only (Aligned_as_of k' o' t' c') b' e h' = no_type_here ks t' t a o' o c' c h'.2 h.2 h'.4 h.5
aligned_alike ks y k o t c a b h only _ b' e h' = absurd (omega (arith, e))

-- members
pub tag_same : (ks : List Kind) → (g : Option ℕ) → (a o : ℕ) → HoldsTag ks g a o → kind_at ks o ≡ OpenBrace → (g' : Option ℕ) → (o' : ℕ)
    → HoldsTag ks g' a o' → kind_at ks o' ≡ OpenBrace → (g ≡ g') × (o ≡ o')
tag_same ks None a o h k None o' h' k' = (refl, h ∙ sym h')
tag_same ks None a o h k (Some i) o' h' k' =
    absurd (true≢false (sym h'.1 ∙ ap is_word (ap (λ x. kind_at ks x) (sym h) ∙ k)))
tag_same ks (Some i) a o h k None o' h' k' =
    absurd (true≢false (sym h.1 ∙ ap is_word (ap (λ x. kind_at ks x) (sym h') ∙ k')))
tag_same ks (Some i) a o h k (Some i') o' h' k' = (ap Some (h.0 ∙ sym h'.0), h.2 ∙ sym h'.2)

abbrev pub OnlyMembers : List Kind → ℕ → Members → ℕ → Type 0
OnlyMembers ks a ms c = (ms' : Members) → (c' : ℕ) → HoldMembers ks ms' a c' → kind_at ks c' ≡ CloseBrace → (ms ≡ ms') × (c ≡ c')

members_alike : (ks : List Kind) → (y : Bool) → (k : ℕ) → (g : Option ℕ) → (o : ℕ) → (ms : Members) → (c a b : ℕ)
    → HoldSpecifying ks y (Members_of k g o ms c) a b → OnlyMembers ks (o + 1) ms c → (s : Specifying) → (b' : ℕ) → 2 ≡ class s
    → HoldSpecifying ks y s a b' → (Members_of k g o ms c ≡ s) × (b ≡ b')
members_alike ks y k g o ms c a b h only (Members_of k' g' o' ms' c') b' e h' =
    let tag = tag_same ks g (a + 1) o h.2 h.3 g' o' h'.2 h'.3 in
    let same = only ms' c' (subst (λ x. HoldMembers ks ms' (x + 1) c') (sym tag.1) h'.5) h'.6 in (
      ap (λ x. Members_of x g o ms c) (h.0 ∙ sym h'.0)
          ∙ ap (λ x. Members_of k' x o ms c) tag.0
          ∙ ap (λ x. Members_of k' g' x ms c) tag.1
          ∙ ap (λ x. Members_of k' g' o' x c) same.0
          ∙ ap (λ x. Members_of k' g' o' ms' x) same.1,
      h.7 ∙ ap (λ x. x + 1) same.1 ∙ sym h'.7,
    )
members_alike ks y k g o ms c a b h only (Tag_of k' n) b' e h' = tag_members_not ks y k' n g o a b' h' h.2 h.3
members_alike ks y k g o ms c a b h only (Enumerators_of k' g' o' el es t c') b' e h' =
    clash (kind_at ks a) Tag Enum h.1 h'.3 (λ x. omega (arith, x))
members_alike ks y k g o ms c a b h only _ b' e h' = absurd (omega (arith, e))

-- enumerators
enumerator_ends_by : (ks : List Kind) → (b : ℕ) → (k : Kind) → kind_at ks b ≡ k → ends_enumerator k ≡ true → Stops ks 3 b
enumerator_ends_by ks b Comma e h = stops_at ks 3 b Comma e (omega arith)
enumerator_ends_by ks b CloseBrace e h = stops_at ks 3 b CloseBrace e (omega arith)
enumerator_ends_by ks b _ e h = absurd (true≢false (sym h))

pub enumerator_stops : (ks : List Kind) → (b : ℕ) → ends_enumerator (kind_at ks b) ≡ true → Stops ks 3 b
enumerator_stops ks b h = enumerator_ends_by ks b (kind_at ks b) refl h

pub unequal : {A : Type 0} → (k : Kind) → ends_enumerator k ≡ true → is_equals k ≡ true → A
unequal Equals h e = absurd (true≢false (sym h))
unequal _ h e = absurd (true≢false (sym e))

enumerator_only : (ks : List Kind) → (e : Enumerator) → (a b : ℕ) → From ks a → HoldsEnumerator ks e a b → ends_enumerator (kind_at ks b) ≡ true
    → (e' : Enumerator) → (b' : ℕ) → HoldsEnumerator ks e' a b' → ends_enumerator (kind_at ks b') ≡ true → (e ≡ e') × (b ≡ b')
enumerator_only ks (Counted_of n) a b w h f (Counted_of n') b' h' f' = (ap Counted_of (h.0 ∙ sym h'.0), h.2 ∙ sym h'.2)
enumerator_only ks (Counted_of n) a b w h f (Given_of n' q t) b' h' f' =
    unequal (kind_at ks b) f (ap (λ x. is_equals (kind_at ks x)) (h.2 ∙ sym h'.2) ∙ h'.3)
enumerator_only ks (Given_of n q t) a b w h f (Counted_of n') b' h' f' =
    unequal (kind_at ks b') f' (ap (λ x. is_equals (kind_at ks x)) (h'.2 ∙ sym h.2) ∙ h.3)
enumerator_only ks (Given_of n q t) a b w h f (Given_of n' q' t') b' h' f' =
    let one : q ≡ q' = h.2 ∙ sym h'.2 in
    let w' : From ks (q + 1) = later ks a (q + 1) (omega (arith, h.2)) w in
    let two =
    placed_only ks 3 t (q + 1) b w' (omega arith) (h.4, h.5) (enumerator_stops ks b f) t' b'
    (h'.4, subst (λ x. Holds ks t' (x + 1) b') (sym one) h'.5) (enumerator_stops ks b' f') in
    (ap (λ x. Given_of x q t) (h.0 ∙ sym h'.0) ∙ ap (λ x. Given_of n' x t) one ∙ ap (λ x. Given_of n' q' x) two.0, two.1)

pub named_first : (ks : List Kind) → (e : Enumerator) → (a b : ℕ) → HoldsEnumerator ks e a b → is_word (kind_at ks a) ≡ true
named_first ks (Counted_of n) a b h = h.1
named_first ks (Given_of n q t) a b h = h.1

last_ends : (ks : List Kind) → (t : Option ℕ) → (a c : ℕ) → HoldsComma ks t a c → kind_at ks c ≡ CloseBrace → ends_enumerator (kind_at ks a) ≡ true
last_ends ks None a c h k = ap ends_enumerator (ap (λ x. kind_at ks x) (sym h) ∙ k)
last_ends ks (Some o) a c h k = ap ends_enumerator h.1

pub enumerators_end : (ks : List Kind) → (es : Enumerators) → (t : Option ℕ) → (a n c : ℕ) → HoldEnumerators ks es a n → HoldsComma ks t n c
    → kind_at ks c ≡ CloseBrace → ends_enumerator (kind_at ks a) ≡ true
enumerators_end ks No_enumerators t a n c h g k = last_ends ks t a c (subst (λ x. HoldsComma ks t x c) h g) k
enumerators_end ks (Enumerator_then o e es) t a n c h g k = ap ends_enumerator h.2

comma_only : (ks : List Kind) → (t : Option ℕ) → (a c : ℕ) → HoldsComma ks t a c → kind_at ks c ≡ CloseBrace → (t' : Option ℕ) → (c' : ℕ)
    → HoldsComma ks t' a c' → kind_at ks c' ≡ CloseBrace → (t ≡ t') × (c ≡ c')
comma_only ks None a c h k None c' h' k' = (refl, h ∙ sym h')
comma_only ks None a c h k (Some o) c' h' k' =
    clash (kind_at ks a) CloseBrace Comma (ap (λ x. kind_at ks x) (sym h) ∙ k) h'.1 (λ x. omega (arith, x))
comma_only ks (Some o) a c h k None c' h' k' =
    clash (kind_at ks a) CloseBrace Comma (ap (λ x. kind_at ks x) (sym h') ∙ k') h.1 (λ x. omega (arith, x))
comma_only ks (Some o) a c h k (Some o') c' h' k' = (ap Some (h.0 ∙ sym h'.0), h.2 ∙ sym h'.2)

-- no enumerator goes on where the list ends
none_on : {A : Type 0} → (ks : List Kind) → (t : Option ℕ) → (a c : ℕ) → HoldsComma ks t a c → kind_at ks c ≡ CloseBrace → (e : Enumerator) → (m : ℕ)
    → kind_at ks a ≡ Comma → HoldsEnumerator ks e (a + 1) m → A
none_on ks None a c h k e m g i = clash (kind_at ks a) CloseBrace Comma (ap (λ x. kind_at ks x) (sym h) ∙ k) g (λ x. omega (arith, x))
none_on ks (Some o) a c h k e m g i =
    absurd (true≢false (sym (named_first ks e (a + 1) m i) ∙ ap (λ x. is_word (kind_at ks x)) (sym h.2) ∙ ap is_word k))

abbrev pub OnlyList : List Kind → ℕ → Enumerators → Option ℕ → ℕ → Type 0
OnlyList ks a es t c =
    (es' : Enumerators) → (n' : ℕ) → (t' : Option ℕ) → (c' : ℕ) → HoldEnumerators ks es' a n' → HoldsComma ks t' n' c' → kind_at ks c' ≡ CloseBrace
    → (es ≡ es') × (t ≡ t') × (c ≡ c')

enumerators_only : (ks : List Kind) → (es : Enumerators) → (t : Option ℕ) → (a n c : ℕ) → From ks a → HoldEnumerators ks es a n → HoldsComma ks t n c
    → kind_at ks c ≡ CloseBrace → OnlyList ks a es t c
enumerators_only ks No_enumerators t a n c w h g k No_enumerators n' t' c' h' g' k' =
    let same = comma_only ks t a c (subst (λ x. HoldsComma ks t x c) h g) k t' c' (subst (λ x. HoldsComma ks t' x c') h' g') k' in
    (refl, same.0, same.1)
enumerators_only ks No_enumerators t a n c w h g k (Enumerator_then o e es) n' t' c' h' g' k' =
    none_on ks t a c (subst (λ x. HoldsComma ks t x c) h g) k e h'.0 h'.2 h'.3
enumerators_only ks (Enumerator_then o e es) t a n c w h g k No_enumerators n' t' c' h' g' k' =
    none_on ks t' a c' (subst (λ x. HoldsComma ks t' x c') h' g') k' e h.0 h.2 h.3
enumerators_only ks (Enumerator_then o e es) t a n c w h g k (Enumerator_then o' e' es') n' t' c' h' g' k' =
    let one =
    enumerator_only ks e (a + 1) h.0 (next ks a w) h.3 (enumerators_end ks es t h.0 n c h.4 g k) e' h'.0 h'.3
    (enumerators_end ks es' t' h'.0 n' c' h'.4 g' k') in
    let w' : From ks h.0 = later ks a h.0 (omega (arith, enumerator_forth ks e (a + 1) h.0 h.3)) w in
    let two = enumerators_only ks es t h.0 n c w' h.4 g k es' n' t' c' (subst (λ x. HoldEnumerators ks es' x n') (sym one.1) h'.4) g' k' in (
      ap (λ x. Enumerator_then x e es) (h.1 ∙ sym h'.1)
          ∙ ap (λ x. Enumerator_then o' x es) one.0
          ∙ ap (λ x. Enumerator_then o' e' x) two.0,
      two.1,
      two.2,
    )

enumerators_alike : (ks : List Kind) → (y : Bool) → (k : ℕ) → (g : Option ℕ) → (o : ℕ) → (el : Enumerator) → (es : Enumerators) → (t : Option ℕ)
    → (c a b : ℕ) → From ks (a + 1) → HoldSpecifying ks y (Enumerators_of k g o el es t c) a b → (s : Specifying) → (b' : ℕ) → 2 ≡ class s
    → HoldSpecifying ks y s a b' → (Enumerators_of k g o el es t c ≡ s) × (b ≡ b')
enumerators_alike ks y k g o el es t c a b w h (Enumerators_of k' g' o' el' es' t' c') b' e h' =
    let tag = tag_same ks g (a + 1) o h.4 h.5 g' o' h'.4 h'.5 in
    let w1 : From ks (o + 1) = later ks (a + 1) (o + 1) (omega (arith, tag_forth ks g (a + 1) o h.4)) w in
    let one =
    enumerator_only ks el (o + 1) h.0 w1 h.6 (enumerators_end ks es t h.0 h.1 c h.7 h.8 h.9) el' h'.0
    (subst (λ x. HoldsEnumerator ks el' (x + 1) h'.0) (sym tag.1) h'.6) (enumerators_end ks es' t' h'.0 h'.1 c' h'.7 h'.8 h'.9) in
    let w2 : From ks h.0 = later ks (o + 1) h.0 (enumerator_forth ks el (o + 1) h.0 h.6) w1 in
    let two =
    enumerators_only ks es t h.0 h.1 c w2 h.7 h.8 h.9 es' h'.1 t' c' (subst (λ x. HoldEnumerators ks es' x h'.1) (sym one.1) h'.7) h'.8 h'.9 in (
      ap (λ x. Enumerators_of x g o el es t c) (h.2 ∙ sym h'.2)
          ∙ ap (λ x. Enumerators_of k' x o el es t c) tag.0
          ∙ ap (λ x. Enumerators_of k' g' x el es t c) tag.1
          ∙ ap (λ x. Enumerators_of k' g' o' x es t c) one.0
          ∙ ap (λ x. Enumerators_of k' g' o' el' x t c) two.0
          ∙ ap (λ x. Enumerators_of k' g' o' el' es' x c) two.1
          ∙ ap (λ x. Enumerators_of k' g' o' el' es' t' x) two.2,
      h.10 ∙ ap (λ x. x + 1) two.2 ∙ sym h'.10,
    )
enumerators_alike ks y k g o el es t c a b w h (Tag_of k' n) b' e h' = tag_members_not ks y k' n g o a b' h' h.4 h.5
enumerators_alike ks y k g o el es t c a b w h (Members_of k' g' o' ms c') b' e h' =
    clash (kind_at ks a) Enum Tag h.3 h'.1 (λ x. omega (arith, x))
enumerators_alike ks y k g o el es t c a b w h _ b' e h' = absurd (omega (arith, e))

abbrev OnlySpecifying : List Kind → Bool → ℕ → Specifyings → ℕ → Type 0
OnlySpecifying ks y a ss m =
    (ss' : Specifyings) → (m' : ℕ) → HoldSpecifyings ks y ss' a m' → ends_specifiers (kind_at ks m') (typed_by ks y ss') ≡ true → (ss ≡ ss') × (m ≡ m')

-- a member of specifiers alone
bare_alike : (ks : List Kind) → (ss : Specifyings) → (e a b : ℕ) → HoldsMember ks (Bare_of ss e) a b → OnlySpecifying ks false a ss e
    → (x : Member) → (b' : ℕ) → HoldsMember ks x a b' → (Bare_of ss e ≡ x) × (b ≡ b')
bare_alike ks ss e a b h only (Bare_of ss' e') b' h' =
    let one = only ss' e' h'.1 (ap (λ k. ends_specifiers k (typed_by ks false ss')) h'.3) in
    (ap (λ y. Bare_of y e) one.0 ∙ ap (λ y. Bare_of ss' y) one.1, h.4 ∙ ap (λ y. y + 1) one.1 ∙ sym h'.4)
bare_alike ks ss e a b h only (Fields_of ss' f fs e') b' h' =
    let one = only ss' h'.0 h'.3 (field_next ks (typed_by ks false ss') f h'.0 h'.1 h'.5) in
    field_unended ks (not (typed_by ks false ss')) f h'.0 h'.1 h'.5 (ap (λ x. kind_at ks x) (sym one.1) ∙ h.3)
bare_alike ks ss e a b h only (Asserted_of x) b' h' = unasserted ks ss a e h.0 h.1 (asserted_first ks x a b' h')

-- one with declarators
fields_alike : (ks : List Kind) → (ss : Specifyings) → (f : Field) → (fs : Fields) → (e a b : ℕ) → From ks a
    → (h : HoldsMember ks (Fields_of ss f fs e) a b) → OnlySpecifying ks false a ss h.0 → (x : Member) → (b' : ℕ) → HoldsMember ks x a b'
    → (Fields_of ss f fs e ≡ x) × (b ≡ b')
fields_alike ks ss f fs e a b w h only (Bare_of ss' e') b' h' =
    let one = only ss' e' h'.1 (ap (λ k. ends_specifiers k (typed_by ks false ss')) h'.3) in
    field_unended ks (not (typed_by ks false ss)) f h.0 h.1 h.5 (ap (λ x. kind_at ks x) one.1 ∙ h'.3)
fields_alike ks ss f fs e a b w h only (Fields_of ss' f' fs' e') b' h' =
    let one = only ss' h'.0 h'.3 (field_next ks (typed_by ks false ss') f' h'.0 h'.1 h'.5) in
    let moved : HoldsField ks (not (typed_by ks false ss)) f' h.0 h'.1 =
    subst (λ x. HoldsField ks (not (typed_by ks false x)) f' h.0 h'.1) (sym one.0)
    (subst (λ x. HoldsField ks (not (typed_by ks false ss')) f' x h'.1) (sym one.1) h'.5) in
    let w' : From ks h.0 = later ks a h.0 (specifyings_forth ks false ss a h.0 h.3) w in
    let two =
    field_only ks (not (typed_by ks false ss)) f h.0 h.1 w' h.5 (fields_end ks fs h.1 e h.6 h.7) f' h'.1 moved (fields_end ks fs' h'.1 e' h'.6 h'.7) in
    let w2 : From ks h.1 = later ks h.0 h.1 (field_forth ks (not (typed_by ks false ss)) f h.0 h.1 h.5) w' in
    let three = fields_only ks fs h.1 e w2 h.6 h.7 fs' e' (subst (λ x. HoldFields ks fs' x e') (sym two.1) h'.6) h'.7 in (
      ap (λ y. Fields_of y f fs e) one.0
          ∙ ap (λ y. Fields_of ss' y fs e) two.0
          ∙ ap (λ y. Fields_of ss' f' y e) three.0
          ∙ ap (λ y. Fields_of ss' f' fs' y) three.1,
      h.8 ∙ ap (λ y. y + 1) three.1 ∙ sym h'.8,
    )
fields_alike ks ss f fs e a b w h only (Asserted_of x) b' h' = unasserted ks ss a h.0 h.2 h.3 (asserted_first ks x a b' h')

asserted_alike : (ks : List Kind) → (x : Assertion) → (a b : ℕ) → From ks a → HoldsAssertion ks x a b → (x' : Member) → (b' : ℕ) → HoldsMember ks x' a b'
    → (Asserted_of x ≡ x') × (b ≡ b')
asserted_alike ks x a b w h (Bare_of ss e) b' h' = unasserted ks ss a e h'.0 h'.1 (asserted_first ks x a b h)
asserted_alike ks x a b w h (Fields_of ss f fs e) b' h' = unasserted ks ss a h'.0 h'.2 h'.3 (asserted_first ks x a b h)
asserted_alike ks x a b w h (Asserted_of x') b' h' =
    let same = assertion_only ks x a b w h x' b' h' in
    (ap Asserted_of same.0, same.1)

pub specifying_strict : (ks : List Kind) → (y : Bool) → (s : Specifying) → (a b : ℕ) → HoldSpecifying ks y s a b → a < b
specifying_strict ks y (Word_of n) a b h = omega (arith, h.2)
specifying_strict ks y (Typedef_of n) a b h = omega (arith, h.3)
specifying_strict ks y (Tag_of k n) a b h = omega (arith, h.4, h.2)
specifying_strict ks y (Aligned_as_of k o t c) a b h = omega (arith, h.6, h.2, type_forth ks t (o + 1) c h.4)
specifying_strict ks y (Aligned_of k o t c) a b h = omega (arith, h.7, h.2, tree_forth ks t (o + 1) c h.5)
specifying_strict ks y (Members_of k g o ms c) a b h =
    omega (arith, h.7, tag_forth ks g (a + 1) o h.2, members_forth ks ms (o + 1) c h.5)
specifying_strict ks y (Enumerators_of k g o e es t c) a b h =
    let one : a + 1 ≤ o = tag_forth ks g (a + 1) o h.4 in
    let two : o + 1 ≤ h.0 = enumerator_forth ks e (o + 1) h.0 h.6 in
    let three : h.0 ≤ h.1 = enumerators_forth ks es h.0 h.1 h.7 in
    let four : h.1 ≤ c = comma_forth ks t h.1 c h.8 in
    omega (arith, one, two, three, four, h.10)
specifying_strict ks y (Atomic_of k o t c) a b h = omega (arith, h.6, h.2, type_forth ks t (o + 1) c h.4)

-- where specifiers may end and one begins, a typedef name stands behind a type specifier
ends_starts : (k : Kind) → (y : Bool) → ends_specifiers k y ≡ true → starts_type k ≡ true → (is_typedef k ≡ true) × (y ≡ true)
ends_starts (TypeName n) y h s = (refl, h)
ends_starts Star y h s = absurd (true≢false (sym s))
ends_starts Identifier y h s = absurd (true≢false (sym s))
ends_starts OpenParen y h s = absurd (true≢false (sym s))
ends_starts OpenBracket y h s = absurd (true≢false (sym s))
ends_starts CloseParen y h s = absurd (true≢false (sym s))
ends_starts Colon y h s = absurd (true≢false (sym s))
ends_starts Comma y h s = absurd (true≢false (sym s))
ends_starts Semicolon y h s = absurd (true≢false (sym s))
ends_starts Equals y h s = absurd (true≢false (sym s))
ends_starts OpenBrace y h s = absurd (true≢false (sym s))
ends_starts End y h s = absurd (true≢false (sym s))
ends_starts _ y h s = absurd (true≢false (sym h))

tagging_typedef_not : {A : Type 0} → (k : Kind) → is_typedef k ≡ true → is_tagging k ≡ true → A
tagging_typedef_not k h e = absurd (true≢false (sym h ∙ tagging_untyped k e))

pub no_specifying : {A : Type 0} → (ks : List Kind) → (y : Bool) → (s : Specifying) → (a b : ℕ) → HoldSpecifying ks y s a b
    → ends_specifiers (kind_at ks a) y ≡ true → A
no_specifying ks y (Word_of n) a b h e =
    specifies_untyped ks a h.1 (ends_starts (kind_at ks a) y e (starting ks y (Word_of n) a b h)).0
no_specifying ks y (Typedef_of n) a b h e =
    absurd (true≢false (sym (ends_starts (kind_at ks a) y e (starting ks y (Typedef_of n) a b h)).1 ∙ h.1))
no_specifying ks y (Tag_of k n) a b h e =
    tagging_typedef_not (kind_at ks a) (ends_starts (kind_at ks a) y e (starting ks y (Tag_of k n) a b h)).0 h.1
no_specifying ks y (Atomic_of k o t c) a b h e =
    typedef_not (kind_at ks a) Atomic (ends_starts (kind_at ks a) y e (starting ks y (Atomic_of k o t c) a b h)).0 h.1 refl
no_specifying ks y (Aligned_as_of k o t c) a b h e =
    typedef_not (kind_at ks a) Align (ends_starts (kind_at ks a) y e (starting ks y (Aligned_as_of k o t c) a b h)).0 h.1 refl
no_specifying ks y (Aligned_of k o t c) a b h e =
    typedef_not (kind_at ks a) Align (ends_starts (kind_at ks a) y e (starting ks y (Aligned_of k o t c) a b h)).0 h.1 refl
no_specifying ks y (Members_of k g o ms c) a b h e =
    typedef_not (kind_at ks a) Tag (ends_starts (kind_at ks a) y e (starting ks y (Members_of k g o ms c) a b h)).0 h.1 refl
no_specifying ks y (Enumerators_of k g o el es t c) a b h e =
    typedef_not (kind_at ks a) Enum (ends_starts (kind_at ks a) y e (starting ks y (Enumerators_of k g o el es t c) a b h)).0 h.3 refl

after : (ks : List Kind) → (a b : ℕ) → a ≤ b → From ks (a + 1) → From ks (b + 1)
after ks a b le w = later ks (a + 1) (b + 1) (omega (arith, le)) w

mutual
  pub specifying_only : (ks : List Kind) → (y : Bool) → (s : Specifying) → (a b : ℕ) → From ks (a + 1) → HoldSpecifying ks y s a b
      → (s' : Specifying) → (b' : ℕ) → HoldSpecifying ks y s' a b' → (s ≡ s') × (b ≡ b')
  specifying_only ks y (Word_of n) a b w h s' b' h' = word_alike ks y n a b h s' b' (same_class ks y (Word_of n) s' a b b' h h') h'
  specifying_only ks y (Typedef_of n) a b w h s' b' h' = typedef_alike ks y n a b h s' b' (same_class ks y (Typedef_of n) s' a b b' h h') h'
  specifying_only ks y (Tag_of k n) a b w h s' b' h' = tag_alike ks y k n a b h s' b' (same_class ks y (Tag_of k n) s' a b b' h h') h'
  specifying_only ks y (Atomic_of k o t c) a b w h s' b' h' =
      let only : OnlyNaming ks (o + 1) t c =
      λ t' c' g f. w ks refl (o + 1) (omega (arith, h.2)) false t c h.4 (ap ends_type h.5) t' c' g (ap ends_type f) in
      atomic_alike ks y k o t c a b h only s' b' (same_class ks y (Atomic_of k o t c) s' a b b' h h') h'
  specifying_only ks y (Aligned_as_of k o t c) a b w h s' b' h' =
      let only : OnlyNaming ks (o + 1) t c =
      λ t' c' g f. w ks refl (o + 1) (omega (arith, h.2)) false t c h.4 (ap ends_type h.5) t' c' g (ap ends_type f) in
      aligned_as_alike ks y k o t c a b h only s' b' (same_class ks y (Aligned_as_of k o t c) s' a b b' h h') h'
  specifying_only ks y (Aligned_of k o t c) a b w h s' b' h' =
      let only : OnlyConstant ks (o + 1) t c =
      λ t' c' g f.
      placed_only ks 3 t (o + 1) c (later ks (a + 1) (o + 1) (omega (arith, h.2)) w) (omega arith) (h.4, h.5)
      (stops_at ks 3 c CloseParen h.6 (omega arith)) t' c' g (stops_at ks 3 c' CloseParen f (omega arith)) in
      aligned_alike ks y k o t c a b h only s' b' (same_class ks y (Aligned_of k o t c) s' a b b' h h') h'
  specifying_only ks y (Members_of k g o ms c) a b w h s' b' h' =
      let w' : From ks (o + 1) = later ks (a + 1) (o + 1) (omega (arith, tag_forth ks g (a + 1) o h.2)) w in
      members_alike ks y k g o ms c a b h (members_only ks ms (o + 1) c w' h.5 h.6) s' b'
      (same_class ks y (Members_of k g o ms c) s' a b b' h h') h'
  specifying_only ks y (Enumerators_of k g o e es t c) a b w h s' b' h' =
      enumerators_alike ks y k g o e es t c a b w h s' b' (same_class ks y (Enumerators_of k g o e es t c) s' a b b' h h') h'

  pub specifyings_only : (ks : List Kind) → (y : Bool) → (ss : Specifyings) → (a m : ℕ) → From ks (a + 1) → HoldSpecifyings ks y ss a m
      → ends_specifiers (kind_at ks m) (typed_by ks y ss) ≡ true → (ss' : Specifyings) → (m' : ℕ) → HoldSpecifyings ks y ss' a m'
      → ends_specifiers (kind_at ks m') (typed_by ks y ss') ≡ true → (ss ≡ ss') × (m ≡ m')
  specifyings_only ks y No_specifiers a m w h e No_specifiers m' h' e' = (refl, h ∙ sym h')
  specifyings_only ks y No_specifiers a m w h e (Specifier_then s ss) m' h' e' =
      no_specifying ks y s a h'.0 h'.1 (ap (λ x. ends_specifiers (kind_at ks x) y) (sym h) ∙ e)
  specifyings_only ks y (Specifier_then s ss) a m w h e No_specifiers m' h' e' =
      no_specifying ks y s a h.0 h.1 (ap (λ x. ends_specifiers (kind_at ks x) y) (sym h') ∙ e')
  specifyings_only ks y (Specifier_then s ss) a m w h e (Specifier_then s' ss') m' h' e' =
      let one = specifying_only ks y s a h.0 w h.1 s' h'.0 h'.1 in
      let forth = specifying_strict ks y s a h.0 h.1 in
      let more =
      specifyings_only
      ks
      (has_type ks s || y)
      ss
      h.0
      m
      (after ks a h.0 (omega (arith, forth)) w)
      h.2
      e
      ss'
      m'
      (subst
      (λ x. HoldSpecifyings ks (has_type ks x || y) ss' h.0 m')
      (sym one.0)
      (subst (λ x. HoldSpecifyings ks (has_type ks s' || y) ss' x m') (sym one.1) h'.2))
      (subst (λ x. ends_specifiers (kind_at ks m') (typed_by ks (has_type ks x || y) ss') ≡ true) (sym one.0) e') in
      (ap (λ x. Specifier_then x ss) one.0 ∙ ap (λ xs. Specifier_then s' xs) more.0, more.1)

  pub members_only : (ks : List Kind) → (ms : Members) → (a c : ℕ) → From ks a → HoldMembers ks ms a c → kind_at ks c ≡ CloseBrace
      → OnlyMembers ks a ms c
  members_only ks No_members a c w h e No_members c' h' e' = (refl, h ∙ sym h')
  members_only ks No_members a c w h e (Member_then x xs) c' h' e' = member_not ks x a h'.0 h'.1 (ap (λ y. kind_at ks y) (sym h) ∙ e)
  members_only ks (Member_then x xs) a c w h e No_members c' h' e' = member_not ks x a h.0 h.1 (ap (λ y. kind_at ks y) (sym h') ∙ e')
  members_only ks (Member_then x xs) a c w h e (Member_then x' xs') c' h' e' =
      let one = member_only ks x a h.0 w h.1 x' h'.0 h'.1 in
      let w' : From ks h.0 = later ks a h.0 (member_forth ks x a h.0 h.1) w in
      let two = members_only ks xs h.0 c w' h.2 e xs' c' (subst (λ y. HoldMembers ks xs' y c') (sym one.1) h'.2) e' in
      (ap (λ y. Member_then y xs) one.0 ∙ ap (λ y. Member_then x' y) two.0, two.1)

  pub member_only : (ks : List Kind) → (x : Member) → (a b : ℕ) → From ks a → HoldsMember ks x a b → (x' : Member) → (b' : ℕ) → HoldsMember ks x' a b'
      → (x ≡ x') × (b ≡ b')
  member_only ks (Bare_of ss e) a b w h x' b' h' =
      bare_alike ks ss e a b h
      (specifyings_only ks false ss a e (next ks a w) h.1 (ap (λ k. ends_specifiers k (typed_by ks false ss)) h.3)) x' b' h'
  member_only ks (Fields_of ss f fs e) a b w h x' b' h' =
      fields_alike ks ss f fs e a b w h
      (specifyings_only ks false ss a h.0 (next ks a w) h.3 (field_next ks (typed_by ks false ss) f h.0 h.1 h.5)) x' b' h'
  member_only ks (Asserted_of x) a b w h x' b' h' = asserted_alike ks x a b w h x' b' h'
