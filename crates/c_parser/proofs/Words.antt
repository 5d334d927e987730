-- Words among specifiers and qualifiers, told apart by their tokens.
use Rattle.std.proofs.Common.{◌≡◌, refl, ap, sym, ◌∙◌, ℕ, zero, suc, ◌+◌, ◌<◌, List, [], ◌∷◌, length, arith, ◌⊎◌, inl, inr, Bool, true, false, true≢false, ◌&&◌, ◌||◌, not, map}
use Rattle.c_parser.specs.declared.kinds.Kind.{Kind}
use Rattle.c_parser.specs.declared.kinds.Kind.TheVariants.{Identifier, TypeWord, Qualifier, Storage, Static, OpenParen, OpenBrace, Atomic, End, TypeName, Typedef, Tag, Enum, Align}
use Rattle.c_parser.specs.Kinds.{kind_at, is_specifying, is_qualifier, is_atomic, is_opening, starts_type, atomic_at, specifies_at, qualifies_at, atomic_opens, is_identifier, stored_amiss, admits, is_word, names_at, may_name, named_by, grouped, behind_pointers, ends_specifiers, opens_parameters, is_typedef, is_tagging, is_brace, braces_at, list_opens}
use Rattle.c_parser.specs.declared.kinds.Named.{Named}
use Rattle.c_parser.specs.declared.kinds.Site.{Site}
use Rattle.c_parser.specs.declared.kinds.Named.TheVariants.{Never, Plainly, Freely}

pub either : (p q : Bool) → (p || q) ≡ true → (p ≡ true) ⊎ (q ≡ true)
either true q h = inl refl
either false q h = inr h

pub left_of : (p q : Bool) → (p && q) ≡ true → p ≡ true
left_of true q h = refl
left_of false q h = absurd (true≢false (sym h))

pub right_of : (p q : Bool) → (p && q) ≡ true → q ≡ true
right_of true q h = h
right_of false q h = absurd (true≢false (sym h))

pub or_left : (p q : Bool) → p ≡ true → (p || q) ≡ true
or_left true q h = refl
or_left false q h = absurd (true≢false (sym h))

pub or_right : (p q : Bool) → q ≡ true → (p || q) ≡ true
or_right true q h = refl
or_right false q h = h

is_word_atomic : (k : Kind) → is_atomic k ≡ true → k ≡ Atomic
is_word_atomic Atomic h = refl
is_word_atomic _ h = absurd (true≢false (sym h))

is_word_qualifier : (k : Kind) → is_qualifier k ≡ true → k ≡ Qualifier
is_word_qualifier Qualifier h = refl
is_word_qualifier _ h = absurd (true≢false (sym h))

word_starts : (k : Kind) → is_specifying k ≡ true → starts_type k ≡ true
word_starts TypeWord h = refl
word_starts Qualifier h = refl
word_starts Storage h = refl
word_starts Static h = refl
word_starts Typedef h = refl
word_starts _ h = absurd (true≢false (sym h))

atomic_kind : (ks : List Kind) → (a : ℕ) → atomic_at ks a ≡ true → kind_at ks a ≡ Atomic
unfolding atomic_at
atomic_kind ks a h = is_word_atomic (kind_at ks a) (left_of (is_atomic (kind_at ks a)) (not (is_opening (kind_at ks (a + 1)))) h)

atomic_alone : (ks : List Kind) → (a : ℕ) → atomic_at ks a ≡ true → kind_at ks (a + 1) ≡ OpenParen → ⊥
unfolding atomic_at
atomic_alone ks a h e =
    true≢false
    (sym (right_of (is_atomic (kind_at ks a)) (not (is_opening (kind_at ks (a + 1)))) h)
    ∙ ap (λ k. not (is_opening k)) e)

-- a word among specifiers, and one among qualifiers
pub data Specifies (ks : List Kind) (a : ℕ) : Type 0 where
  by_word : is_specifying (kind_at ks a) ≡ true → Specifies ks a
  by_atomic : kind_at ks a ≡ Atomic → (kind_at ks (a + 1) ≡ OpenParen → ⊥) → Specifies ks a

pub specifies_view : (ks : List Kind) → (a : ℕ) → specifies_at ks a ≡ true → Specifies ks a
unfolding specifies_at
specifies_view ks a h =
    elim (either (is_specifying (kind_at ks a)) (atomic_at ks a) h) [
      | inl p ↦ by_word p
      | inr q ↦ by_atomic (atomic_kind ks a q) (atomic_alone ks a q)
    ]

pub data Qualifies (ks : List Kind) (a : ℕ) : Type 0 where
  by_qualifier : kind_at ks a ≡ Qualifier → Qualifies ks a
  by_lone : kind_at ks a ≡ Atomic → (kind_at ks (a + 1) ≡ OpenParen → ⊥) → Qualifies ks a

pub qualifies_view : (ks : List Kind) → (a : ℕ) → qualifies_at ks a ≡ true → Qualifies ks a
unfolding qualifies_at
qualifies_view ks a h =
    elim (either (is_qualifier (kind_at ks a)) (atomic_at ks a) h) [
      | inl p ↦ by_qualifier (is_word_qualifier (kind_at ks a) p)
      | inr q ↦ by_lone (atomic_kind ks a q) (atomic_alone ks a q)
    ]

qualifier_specifies : (k : Kind) → is_qualifier k ≡ true → is_specifying k ≡ true
qualifier_specifies Qualifier h = refl
qualifier_specifies _ h = absurd (true≢false (sym h))

pub qualifies_specifies : (ks : List Kind) → (a : ℕ) → qualifies_at ks a ≡ true → specifies_at ks a ≡ true
unfolding qualifies_at specifies_at
qualifies_specifies ks a h =
    elim (either (is_qualifier (kind_at ks a)) (atomic_at ks a) h) [
      | inl p ↦ or_left (is_specifying (kind_at ks a)) (atomic_at ks a) (qualifier_specifies (kind_at ks a) p)
      | inr q ↦ or_right (is_specifying (kind_at ks a)) (atomic_at ks a) q
    ]

starts_by : (ks : List Kind) → (a : ℕ) → Specifies ks a → starts_type (kind_at ks a) ≡ true
starts_by ks a (by_word p) = word_starts (kind_at ks a) p
starts_by ks a (by_atomic e n) = ap starts_type e

pub specifies_starts : (ks : List Kind) → (a : ℕ) → specifies_at ks a ≡ true → starts_type (kind_at ks a) ≡ true
specifies_starts ks a h = starts_by ks a (specifies_view ks a h)

-- no word of another kind is among them
not_by : {A : Type 0} → (ks : List Kind) → (a : ℕ) → (k : Kind) → Specifies ks a → kind_at ks a ≡ k → is_specifying k ≡ false → is_atomic k ≡ false → A
not_by ks a k (by_word p) e s n = absurd (true≢false (sym p ∙ ap is_specifying e ∙ s))
not_by ks a k (by_atomic q m) e s n = absurd (true≢false (sym (ap is_atomic q) ∙ ap is_atomic e ∙ n))

pub specifies_not : {A : Type 0} → (ks : List Kind) → (a : ℕ) → (k : Kind) → specifies_at ks a ≡ true → kind_at ks a ≡ k → is_specifying k ≡ false
    → is_atomic k ≡ false → A
specifies_not ks a k h e s n = not_by ks a k (specifies_view ks a h) e s n

pub qualifies_not : {A : Type 0} → (ks : List Kind) → (a : ℕ) → (k : Kind) → qualifies_at ks a ≡ true → kind_at ks a ≡ k → is_specifying k ≡ false
    → is_atomic k ≡ false → A
qualifies_not ks a k h e s n = specifies_not ks a k (qualifies_specifies ks a h) e s n

-- `static` is no qualifier
static_by : {A : Type 0} → (ks : List Kind) → (a : ℕ) → Qualifies ks a → kind_at ks a ≡ Static → A
static_by ks a (by_qualifier p) e = absurd (true≢false (sym (ap is_qualifier p) ∙ ap is_qualifier e))
static_by ks a (by_lone p n) e = absurd (true≢false (sym (ap is_atomic p) ∙ ap is_atomic e))

pub static_qualifies_not : {A : Type 0} → (ks : List Kind) → (a : ℕ) → kind_at ks a ≡ Static → qualifies_at ks a ≡ true → A
static_qualifies_not ks a e q = static_by ks a (qualifies_view ks a q) e

-- `_Atomic` in front of a `(` is none
atomic_not_by : {A : Type 0} → (ks : List Kind) → (a : ℕ) → Specifies ks a → kind_at ks a ≡ Atomic → kind_at ks (a + 1) ≡ OpenParen → A
atomic_not_by ks a (by_word p) e o = absurd (true≢false (sym p ∙ ap is_specifying e))
atomic_not_by ks a (by_atomic q m) e o = absurd (m o)

pub atomic_not : {A : Type 0} → (ks : List Kind) → (a : ℕ) → specifies_at ks a ≡ true → kind_at ks a ≡ Atomic → kind_at ks (a + 1) ≡ OpenParen → A
atomic_not ks a h e o = atomic_not_by ks a (specifies_view ks a h) e o

pub qualifies_starts : (ks : List Kind) → (a : ℕ) → qualifies_at ks a ≡ true → starts_type (kind_at ks a) ≡ true
qualifies_starts ks a h = specifies_starts ks a (qualifies_specifies ks a h)

both_true : (p q : Bool) → p ≡ true → q ≡ true → (p && q) ≡ true
both_true true q h g = g
both_true false q h g = absurd (true≢false (sym h))

opening_kind : (k : Kind) → is_opening k ≡ true → k ≡ OpenParen
opening_kind OpenParen h = refl
opening_kind _ h = absurd (true≢false (sym h))

-- `_Atomic ( type-name )`
pub opens_kind : (ks : List Kind) → (a : ℕ) → atomic_opens ks a ≡ true → kind_at ks a ≡ Atomic
unfolding atomic_opens
opens_kind ks a h = is_word_atomic (kind_at ks a) (left_of (is_atomic (kind_at ks a)) (is_opening (kind_at ks (a + 1))) h)

pub opens_next : (ks : List Kind) → (a : ℕ) → atomic_opens ks a ≡ true → kind_at ks (a + 1) ≡ OpenParen
unfolding atomic_opens
opens_next ks a h = opening_kind (kind_at ks (a + 1)) (right_of (is_atomic (kind_at ks a)) (is_opening (kind_at ks (a + 1))) h)

pub opens_both : (ks : List Kind) → (a : ℕ) → kind_at ks a ≡ Atomic → kind_at ks (a + 1) ≡ OpenParen → atomic_opens ks a ≡ true
unfolding atomic_opens
opens_both ks a k o = both_true (is_atomic (kind_at ks a)) (is_opening (kind_at ks (a + 1))) (ap is_atomic k) (ap is_opening o)

opening_inside : (ks : List Kind) → (a : ℕ) → is_opening (kind_at ks a) ≡ true → a < length ks
opening_inside [] a h = absurd (true≢false (sym h))
opening_inside (k ∷ ks) zero h = omega arith
opening_inside (k ∷ ks) (suc a) h = omega (arith, opening_inside ks a h)

-- a word, by its kind
pub word_specifies : (ks : List Kind) → (a : ℕ) → (k : Kind) → kind_at ks a ≡ k → is_specifying k ≡ true → specifies_at ks a ≡ true
unfolding specifies_at
word_specifies ks a k e s = or_left (is_specifying (kind_at ks a)) (atomic_at ks a) (ap is_specifying e ∙ s)

atomic_alone_at : (ks : List Kind) → (a : ℕ) → kind_at ks a ≡ Atomic → is_opening (kind_at ks (a + 1)) ≡ false → atomic_at ks a ≡ true
unfolding atomic_at
atomic_alone_at ks a k n = both_true (is_atomic (kind_at ks a)) (not (is_opening (kind_at ks (a + 1)))) (ap is_atomic k) (ap not n)

opens_not : (ks : List Kind) → (a : ℕ) → kind_at ks a ≡ Atomic → atomic_opens ks a ≡ false → is_opening (kind_at ks (a + 1)) ≡ false
unfolding atomic_opens
opens_not ks a k n = ap (λ x. is_atomic x && is_opening (kind_at ks (a + 1))) (sym k) ∙ n

pub lone_specifies : (ks : List Kind) → (a : ℕ) → kind_at ks a ≡ Atomic → atomic_opens ks a ≡ false → specifies_at ks a ≡ true
unfolding specifies_at
lone_specifies ks a k n =
    or_right (is_specifying (kind_at ks a)) (atomic_at ks a) (atomic_alone_at ks a k (opens_not ks a k n))

-- no word stands where none of their kinds does
word_by : (k : Kind) → (k ≡ TypeWord → ⊥) → (k ≡ Qualifier → ⊥) → (k ≡ Storage → ⊥) → (k ≡ Typedef → ⊥) → (k ≡ Static → ⊥)
    → is_specifying k ≡ true → ⊥
word_by TypeWord w q c d s h = w refl
word_by Qualifier w q c d s h = q refl
word_by Storage w q c d s h = c refl
word_by Typedef w q c d s h = d refl
word_by Static w q c d s h = s refl
word_by _ w q c d s h = true≢false (sym h)

none_by : (ks : List Kind) → (a : ℕ) → (k : Kind) → k ≡ kind_at ks a → (k ≡ TypeWord → ⊥) → (k ≡ Qualifier → ⊥) → (k ≡ Storage → ⊥)
    → (k ≡ Typedef → ⊥) → (k ≡ Static → ⊥) → (k ≡ Atomic → ⊥) → Specifies ks a → ⊥
none_by ks a k e w q c d s n (by_word p) = word_by k w q c d s (ap is_specifying e ∙ p)
none_by ks a k e w q c d s n (by_atomic h m) = n (e ∙ h)

pub specifies_none : (ks : List Kind) → (a : ℕ) → (k : Kind) → k ≡ kind_at ks a → (k ≡ TypeWord → ⊥) → (k ≡ Qualifier → ⊥) → (k ≡ Storage → ⊥)
    → (k ≡ Typedef → ⊥) → (k ≡ Static → ⊥) → (k ≡ Atomic → ⊥) → specifies_at ks a ≡ true → ⊥
specifies_none ks a k e w q c d s n h = none_by ks a k e w q c d s n (specifies_view ks a h)

starts_inside : (ks : List Kind) → (a : ℕ) → starts_type (kind_at ks a) ≡ true → a < length ks
starts_inside [] a h = absurd (true≢false (sym h))
starts_inside (k ∷ ks) zero h = omega arith
starts_inside (k ∷ ks) (suc a) h = omega (arith, starts_inside ks a h)

-- a qualifier is a token
pub qualifies_inside : (ks : List Kind) → (a : ℕ) → qualifies_at ks a ≡ true → a < length ks
qualifies_inside ks a h = starts_inside ks a (qualifies_starts ks a h)

pub opens_inside : (ks : List Kind) → (a : ℕ) → atomic_opens ks a ≡ true → a + 1 < length ks
opens_inside ks a h = opening_inside ks (a + 1) (ap is_opening (opens_next ks a h))

-- a kind that passes a test which `End` fails is that of a token
pub test_inside : (f : Kind → Bool) → f End ≡ false → (ks : List Kind) → (a : ℕ) → f (kind_at ks a) ≡ true → a < length ks
test_inside f n [] a h = absurd (true≢false (sym h ∙ n))
test_inside f n (k ∷ ks) zero h = omega arith
test_inside f n (k ∷ ks) (suc a) h = omega (arith, test_inside f n ks a h)

-- what may not stand among specifiers
not_false : (p : Bool) → not p ≡ false → p ≡ true
not_false true h = refl
not_false false h = absurd (true≢false h)

not_true : (p : Bool) → not p ≡ true → p ≡ false
not_true true h = absurd (true≢false (sym h))
not_true false h = refl

pub amiss_refused : (ks : List Kind) → (a : ℕ) → (n : Site) → stored_amiss ks a n ≡ true → admits n (kind_at ks a) ≡ false
unfolding stored_amiss
amiss_refused ks a n h = not_true (admits n (kind_at ks a)) h

pub amiss_admitted : (ks : List Kind) → (a : ℕ) → (n : Site) → stored_amiss ks a n ≡ false → admits n (kind_at ks a) ≡ true
unfolding stored_amiss
amiss_admitted ks a n h = not_false (admits n (kind_at ks a)) h

pub not_named : (n : Bool) → not n ≡ true → n ≡ true → ⊥
not_named true h e = true≢false (sym h)
not_named false h e = true≢false (sym e)

pub named_or : (p n : Bool) → (p && not n) ≡ false → p ≡ true → n ≡ true
named_or p true h e = refl
named_or true false h e = sym h
named_or false false h e = e

-- members or enumerators in braces
pub tag_is : (k : Kind) → is_tagging k ≡ true → (k ≡ Enum → ⊥) → k ≡ Tag
tag_is Tag h n = refl
tag_is Enum h n = absurd (n refl)
tag_is _ h n = absurd (true≢false (sym h))

pub brace_is : (k : Kind) → is_brace k ≡ true → k ≡ OpenBrace
brace_is OpenBrace h = refl
brace_is _ h = absurd (true≢false (sym h))

pub is_a_brace : (k : Kind) → k ≡ OpenBrace → is_brace k ≡ true
is_a_brace k e = ap is_brace e

pub list_tags : (ks : List Kind) → (a : ℕ) → list_opens ks a ≡ true → is_tagging (kind_at ks a) ≡ true
unfolding list_opens
list_tags ks a h = left_of (is_tagging (kind_at ks a)) (braces_at ks (a + 1)) h

pub list_braces : (ks : List Kind) → (a : ℕ) → list_opens ks a ≡ true → braces_at ks (a + 1) ≡ true
unfolding list_opens
list_braces ks a h = right_of (is_tagging (kind_at ks a)) (braces_at ks (a + 1)) h

pub list_both : (ks : List Kind) → (a : ℕ) → is_tagging (kind_at ks a) ≡ true → braces_at ks (a + 1) ≡ true → list_opens ks a ≡ true
unfolding list_opens
list_both ks a k h = both_true (is_tagging (kind_at ks a)) (braces_at ks (a + 1)) k h

pub brace_first : (ks : List Kind) → (a : ℕ) → kind_at ks a ≡ OpenBrace → braces_at ks a ≡ true
unfolding braces_at
brace_first ks a k =
    or_left (is_brace (kind_at ks a)) (is_word (kind_at ks a) && is_brace (kind_at ks (a + 1))) (ap is_brace k)

pub brace_second : (ks : List Kind) → (a : ℕ) → is_word (kind_at ks a) ≡ true → kind_at ks (a + 1) ≡ OpenBrace → braces_at ks a ≡ true
unfolding braces_at
brace_second ks a w k =
    or_right
    (is_brace (kind_at ks a))
    (is_word (kind_at ks a) && is_brace (kind_at ks (a + 1)))
    (both_true (is_word (kind_at ks a)) (is_brace (kind_at ks (a + 1))) w (ap is_brace k))

word_brace_not : (k : Kind) → is_word k ≡ true → is_brace k ≡ true → ⊥
word_brace_not Identifier h e = true≢false (sym e)
word_brace_not (TypeName n) h e = true≢false (sym e)
word_brace_not _ h e = true≢false (sym h)

-- behind a tag
pub tag_opens : (ks : List Kind) → (a : ℕ) → braces_at ks a ≡ true → is_word (kind_at ks a) ≡ true → kind_at ks (a + 1) ≡ OpenBrace
unfolding braces_at
tag_opens ks a h w =
    elim (either (is_brace (kind_at ks a)) (is_word (kind_at ks a) && is_brace (kind_at ks (a + 1))) h) [
      | inl p ↦ absurd (word_brace_not (kind_at ks a) w p)
      | inr q ↦ brace_is (kind_at ks (a + 1)) (right_of (is_word (kind_at ks a)) (is_brace (kind_at ks (a + 1))) q)
    ]

-- without one
pub opens_here : (ks : List Kind) → (a : ℕ) → braces_at ks a ≡ true → is_word (kind_at ks a) ≡ false → kind_at ks a ≡ OpenBrace
unfolding braces_at
opens_here ks a h w =
    elim (either (is_brace (kind_at ks a)) (is_word (kind_at ks a) && is_brace (kind_at ks (a + 1))) h) [
      | inl p ↦ brace_is (kind_at ks a) p
      | inr q ↦ absurd (true≢false (sym (left_of (is_word (kind_at ks a)) (is_brace (kind_at ks (a + 1))) q) ∙ w))
    ]

pub list_inside : (ks : List Kind) → (a : ℕ) → list_opens ks a ≡ true → a < length ks
list_inside ks a h = test_inside is_tagging refl ks a (list_tags ks a h)

-- a specifier by its first token
abbrev pub class_of : Kind → Bool → ℕ
class_of (TypeName n) o = 1
class_of Tag o = 2
class_of Enum o = 2
class_of Atomic true = 3
class_of Align o = 4
class_of _ o = 0

word_class : (k : Kind) → (o : Bool) → is_specifying k ≡ true → class_of k o ≡ 0
word_class TypeWord o h = refl
word_class Qualifier o h = refl
word_class Storage o h = refl
word_class Static o h = refl
word_class Typedef o h = refl
word_class _ o h = absurd (true≢false (sym h))

not_opening : (k : Kind) → (k ≡ OpenParen → ⊥) → is_opening k ≡ false
not_opening OpenParen n = absurd (n refl)
not_opening _ n = refl

class_by : (ks : List Kind) → (a : ℕ) → Specifies ks a → class_of (kind_at ks a) (is_opening (kind_at ks (a + 1))) ≡ 0
class_by ks a (by_word p) = word_class (kind_at ks a) (is_opening (kind_at ks (a + 1))) p
class_by ks a (by_atomic e n) =
    ap (λ k. class_of k (is_opening (kind_at ks (a + 1)))) e ∙ ap (class_of Atomic) (not_opening (kind_at ks (a + 1)) n)

pub specifies_class : (ks : List Kind) → (a : ℕ) → specifies_at ks a ≡ true → class_of (kind_at ks a) (is_opening (kind_at ks (a + 1))) ≡ 0
specifies_class ks a h = class_by ks a (specifies_view ks a h)

pub typedef_class : (k : Kind) → (o : Bool) → is_typedef k ≡ true → class_of k o ≡ 1
typedef_class (TypeName n) o h = refl
typedef_class _ o h = absurd (true≢false (sym h))

pub tagging_class : (k : Kind) → (o : Bool) → is_tagging k ≡ true → class_of k o ≡ 2
tagging_class Tag o h = refl
tagging_class Enum o h = refl
tagging_class _ o h = absurd (true≢false (sym h))

-- what `struct`, `union` and `enum` are not
pub tagging_starts : (k : Kind) → is_tagging k ≡ true → starts_type k ≡ true
tagging_starts Tag h = refl
tagging_starts Enum h = refl
tagging_starts _ h = absurd (true≢false (sym h))

pub tagging_untyped : (k : Kind) → is_tagging k ≡ true → is_typedef k ≡ false
tagging_untyped Tag h = refl
tagging_untyped Enum h = refl
tagging_untyped _ h = absurd (true≢false (sym h))

pub tagging_unspecified : (k : Kind) → is_tagging k ≡ true → (is_specifying k ≡ false) × (is_atomic k ≡ false)
tagging_unspecified Tag h = (refl, refl)
tagging_unspecified Enum h = (refl, refl)
tagging_unspecified _ h = absurd (true≢false (sym h))

opening_not : (p q : Bool) → p ≡ false → (p && q) ≡ false
opening_not true q h = absurd (true≢false h)
opening_not false q h = refl

pub tagging_opens_not : (ks : List Kind) → (a : ℕ) → is_tagging (kind_at ks a) ≡ true → atomic_opens ks a ≡ false
unfolding atomic_opens
tagging_opens_not ks a h = opening_not (is_atomic (kind_at ks a)) (is_opening (kind_at ks (a + 1))) (tagging_unspecified (kind_at ks a) h).1

pub tagging_by : (k : Kind) → (k ≡ Tag → ⊥) → (k ≡ Enum → ⊥) → is_tagging k ≡ true → ⊥
tagging_by Tag n m h = n refl
tagging_by Enum n m h = m refl
tagging_by _ n m h = true≢false (sym h)

-- a typedef name
pub typedef_starts : (k : Kind) → is_typedef k ≡ true → starts_type k ≡ true
typedef_starts (TypeName n) h = refl
typedef_starts _ h = absurd (true≢false (sym h))

pub typedef_by : (k : Kind) → ((n : ℕ) → k ≡ TypeName n → ⊥) → is_typedef k ≡ true → ⊥
typedef_by (TypeName n) u h = u n refl
typedef_by _ u h = true≢false (sym h)

pub typedef_not : {A : Type 0} → (k x : Kind) → is_typedef k ≡ true → k ≡ x → is_typedef x ≡ false → A
typedef_not k x h e n = absurd (true≢false (sym h ∙ ap is_typedef e ∙ n))

specifying_untyped : (k : Kind) → is_specifying k ≡ true → is_typedef k ≡ false
specifying_untyped TypeWord h = refl
specifying_untyped Qualifier h = refl
specifying_untyped Storage h = refl
specifying_untyped Static h = refl
specifying_untyped Typedef h = refl
specifying_untyped _ h = absurd (true≢false (sym h))

atomic_untyped : (k : Kind) → is_atomic k ≡ true → is_typedef k ≡ false
atomic_untyped Atomic h = refl
atomic_untyped _ h = absurd (true≢false (sym h))

-- no keyword among specifiers is one
pub specifies_untyped : {A : Type 0} → (ks : List Kind) → (a : ℕ) → specifies_at ks a ≡ true → is_typedef (kind_at ks a) ≡ true → A
unfolding specifies_at atomic_at
specifies_untyped ks a h t = elim (either (is_specifying (kind_at ks a)) (atomic_at ks a) h) [
  | inl p ↦ absurd (true≢false (sym t ∙ specifying_untyped (kind_at ks a) p))
  | inr q ↦ absurd (true≢false (sym t ∙ atomic_untyped (kind_at ks a) (left_of (is_atomic (kind_at ks a)) (not (is_opening (kind_at ks (a + 1)))) q)))
]

-- the name of a declarator
pub word_identifier : (k : Kind) → is_identifier k ≡ true → is_word k ≡ true
word_identifier Identifier h = refl
word_identifier _ h = absurd (true≢false (sym h))

pub named_word : (n : Named) → (k : Kind) → may_name n k ≡ true → is_word k ≡ true
named_word Never k h = absurd (true≢false (sym h))
named_word Plainly k h = word_identifier k h
named_word Freely k h = h

-- behind a `(` no typedef name stands for a name
word_opens : (k : Kind) → is_identifier k ≡ true → opens_parameters k ≡ false
word_opens Identifier h = refl
word_opens _ h = absurd (true≢false (sym h))

pub grouped_opens_not : (n : Named) → (k : Kind) → may_name (grouped n) k ≡ true → opens_parameters k ≡ false
grouped_opens_not Never k h = absurd (true≢false (sym h))
grouped_opens_not Plainly k h = word_opens k h
grouped_opens_not Freely k h = word_opens k h

-- specifiers end in front of a name
pub word_ends : (k : Kind) → is_word k ≡ true → ends_specifiers k true ≡ true
word_ends Identifier h = refl
word_ends (TypeName n) h = refl
word_ends _ h = absurd (true≢false (sym h))

pub plain_ends : (k : Kind) → is_identifier k ≡ true → ends_specifiers k false ≡ true
plain_ends Identifier h = refl
plain_ends _ h = absurd (true≢false (sym h))

pub name_ends : (y t : Bool) → (k : Kind) → may_name (named_by y t) k ≡ true → ends_specifiers k t ≡ true
name_ends false t k h = absurd (true≢false (sym h))
name_ends true true k h = word_ends k h
name_ends true false k h = plain_ends k h

pub name_stands : (ks : List Kind) → (a : ℕ) → (y : Named) → names_at ks a y ≡ true → may_name y (kind_at ks a) ≡ true
unfolding names_at
name_stands ks a y h = h

pub name_stands_not : (ks : List Kind) → (a : ℕ) → (y : Named) → names_at ks a y ≡ false → may_name y (kind_at ks a) ≡ true → ⊥
unfolding names_at
name_stands_not ks a y h e = true≢false (sym e ∙ h)

-- which name may stand, as the code finds it
pub behind_mapped : {A B : Type 0} → (f : A → B) → (n : Named) → (xs : List A) → behind_pointers n xs ≡ behind_pointers n (map f xs)
behind_mapped f n [] = refl
behind_mapped f n (x ∷ xs) = refl
