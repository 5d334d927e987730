-- No two names of types stand from one place on, where one may end behind each: by the number of tokens that are left, since what
-- stands in a name stands behind its first token.
use Rattle.std.proofs.Common.{◌≡◌, refl, ap, sym, ◌∙◌, subst, ℕ, zero, suc, ◌+◌, ◌≤◌, List, [], ◌∷◌, length, arith, Bool, true, false, true≢false, ◌||◌}
use Rattle.tree_data.specs.Trees.{Specifying, Specifyings, No_specifiers, Specifier_then, Naming, Type_of, Declaring, Declaring_of, Grouping, No_group, Named_of, Group_of, Derivings}
use Rattle.c_parser.specs.declared.kinds.Kind.{Kind}
use Rattle.c_parser.specs.declared.kinds.Kind.TheVariants.{Identifier, OpenParen, CloseParen, OpenBracket, Colon, Comma, End, Semicolon, Equals, OpenBrace}
use Rattle.c_parser.specs.Grammar.{has_type, typed_by}
use Rattle.c_parser.specs.Kinds.{kind_at, starts_type, ends_type, ends_specifiers, named_by}
use Rattle.c_parser.specs.Reading.{HoldSpecifyings, HoldsNaming, HoldsType, HoldsDeclaring, HoldsGrouping, HoldDerivings}
use Rattle.c_parser.proofs.Forth.{specifyings_forth}
use Rattle.c_parser.proofs.Typed.{Typed, From, later}
use Rattle.c_parser.proofs.Types.{naming_starts}
use Rattle.c_parser.proofs.Words.{name_ends}
use Rattle.c_parser.specs.declared.kinds.Named.{Named}
use Rattle.c_parser.proofs.DeclaratorReading.{ends_pointers, derivings_begin, declaring_only}
use Rattle.c_parser.proofs.MemberReading.{specifying_strict, specifyings_only}

-- the whole name
ends_wider : (k : Kind) → (t : Bool) → ends_pointers k ≡ true → ends_specifiers k t ≡ true
ends_wider Identifier t h = refl
ends_wider OpenParen t h = refl
ends_wider OpenBracket t h = refl
ends_wider CloseParen t h = refl
ends_wider Colon t h = refl
ends_wider Comma t h = refl
ends_wider Semicolon t h = refl
ends_wider Equals t h = refl
ends_wider OpenBrace t h = refl
ends_wider End t h = refl
ends_wider _ t h = absurd (true≢false (sym h))

grouping_next : (ks : List Kind) → (y t : Bool) → (g : Grouping) → (ds : Derivings) → (a m b : ℕ) → HoldsGrouping ks (named_by y t) g a m
    → HoldDerivings ks ds m b → ends_type (kind_at ks b) ≡ true → ends_specifiers (kind_at ks a) t ≡ true
grouping_next ks y t No_group ds a m b h g e =
    ends_wider (kind_at ks a) t (ap (λ x. ends_pointers (kind_at ks x)) (sym h) ∙ derivings_begin ks ds m b g e)
grouping_next ks y t (Named_of n) ds a m b h g e = name_ends y t (kind_at ks a) h.1
grouping_next ks y t (Group_of o d c) ds a m b h g e = ap (λ k. ends_specifiers k t) h.1

pub declaring_begins : (ks : List Kind) → (y t : Bool) → (d : Declaring) → (a b : ℕ) → HoldsDeclaring ks (named_by y t) d a b
    → ends_type (kind_at ks b) ≡ true → ends_specifiers (kind_at ks a) t ≡ true
declaring_begins ks y t (Declaring_of [] g ds) a b h e =
    ap (λ x. ends_specifiers (kind_at ks x) t) (sym h.2) ∙ grouping_next ks y t g ds h.0 h.1 b h.3 h.4 e
declaring_begins ks y t (Declaring_of (p ∷ ps) g ds) a b h e = ap (λ k. ends_specifiers k t) h.2.2

outside : (ks : List Kind) → (p : ℕ) → length ks ≤ p → kind_at ks p ≡ End
outside [] p h = refl
outside (k ∷ ks) zero h = absurd (omega (arith, h))
outside (k ∷ ks) (suc p) h = outside ks p (omega (arith, h))

some_strict : (ks : List Kind) → (y : Bool) → (s : Specifying) → (ss : Specifyings) → (a m : ℕ) → HoldSpecifyings ks y (Specifier_then s ss) a m
    → a + 1 ≤ m
some_strict ks y s ss a m h =
    omega (arith, specifying_strict ks y s a h.0 h.1, specifyings_forth ks (has_type ks s || y) ss h.0 m h.2)

-- a declarator behind specifiers that are the same
pub named_moved : (ks : List Kind) → (y : Bool) → (n : Named) → (ss ss' : Specifyings) → (m m' c : ℕ) → (d : Declaring)
    → n ≡ named_by y (typed_by ks false ss) → ss ≡ ss' → m ≡ m' → HoldsDeclaring ks (named_by y (typed_by ks false ss')) d m' c → HoldsDeclaring ks n d m c
named_moved ks y n ss ss' m m' c d is e f h =
    subst
    (λ x. HoldsDeclaring ks x d m c)
    (ap (λ x. named_by y (typed_by ks false x)) (sym e) ∙ sym is)
    (subst (λ x. HoldsDeclaring ks (named_by y (typed_by ks false ss')) d x c) (sym f) h)

from_end : (ks : List Kind) → (n p : ℕ) → length ks ≤ p + n → Typed ks p
from_end ks zero p le y t c h e t' c' h' e' =
    let end : length ks ≤ p = omega arith in
    absurd (true≢false (sym (naming_starts ks y t p c h) ∙ ap starts_type (outside ks p end)))
from_end ks (suc n) p le y (Type_of No_specifiers d) c h e t' c' h' e' = absurd h.1
from_end ks (suc n) p le y (Type_of (Specifier_then s ss) d) c h e (Type_of ss' d') c' h' e' =
    let w : From ks (p + 1) = λ ks' same q more. from_end ks' n q (omega (arith, le, more, same)) in
    let one =
    specifyings_only
    ks
    false
    (Specifier_then s ss)
    p
    h.0
    w
    h.2
    (declaring_begins ks y (typed_by ks false (Specifier_then s ss)) d h.0 c h.3 e)
    ss'
    h'.0
    h'.2
    (declaring_begins ks y (typed_by ks false ss') d' h'.0 c' h'.3 e') in
    let two =
    declaring_only
    ks
    (named_by y (typed_by ks false (Specifier_then s ss)))
    d
    h.0
    c
    (later ks (p + 1) h.0 (some_strict ks false s ss p h.0 h.2) w)
    h.3
    e
    d'
    c'
    (named_moved ks y (named_by y (typed_by ks false (Specifier_then s ss))) (Specifier_then s ss) ss' h.0 h'.0 c' d' refl one.0 one.1 h'.3)
    e' in
    (ap (λ x. Type_of x d) one.0 ∙ ap (λ x. Type_of ss' x) two.0, two.1)

pub typed_at : (ks : List Kind) → (p : ℕ) → Typed ks p
typed_at ks p = from_end ks (length ks) p (omega arith)

pub everywhere : (ks : List Kind) → (a : ℕ) → From ks a
everywhere ks a ks' e p le = typed_at ks' p

pub type_only : (ks : List Kind) → (t : Naming) → (a c : ℕ) → HoldsType ks t a c → ends_type (kind_at ks c) ≡ true
    → (t' : Naming) → (c' : ℕ) → HoldsType ks t' a c' → ends_type (kind_at ks c') ≡ true → (t ≡ t') × (c ≡ c')
type_only ks t a c = typed_at ks a false t c

pub parameter_only : (ks : List Kind) → (t : Naming) → (a c : ℕ) → HoldsNaming ks true t a c → ends_type (kind_at ks c) ≡ true
    → (t' : Naming) → (c' : ℕ) → HoldsNaming ks true t' a c' → ends_type (kind_at ks c') ≡ true → (t ≡ t') × (c ≡ c')
parameter_only ks t a c = typed_at ks a true t c
