-- No two declarators of names of types and of parameters stand from one place on, where such a name may end behind each: by the names in them.
use Rattle.std.proofs.Common.{◌≡◌, refl, ap, sym, ◌∙◌, subst, ℕ, ◌+◌, List, [], ◌∷◌, arith, Bool, true, false, true≢false}
use Rattle.tree_data.specs.Trees.{Tree, Name_of, Constant_of, Text_of, Paren_of, Postfix_of, Unary_of, Binary_of, Conditional_of, Assign_of, Of_type, Compound_of, Generic_of, Offset_of, Operator_of, Cast_of, Choice_of, Left_of, Fronts, None_before, Front_then, Naming, Declaring, Declaring_of, Parameters, No_parameters, Fixed_of, Variadic_of, Row, No_more, Parameter_then, Grouping, No_group, Named_of, Group_of, Deriving, Array_of, Function_of, Derivings, No_derivings, Deriving_then, Bound, Unsized_of, Any_size_of, Sized_of, Static_sized_of, Sized_static_of, Names_of, are_names}
use Rattle.c_parser.specs.declared.kinds.Kind.{Kind}
use Rattle.c_parser.specs.declared.kinds.Kind.TheVariants.{Identifier, Constant, Text, TypeName, Tag, Enum, Align, Atomic, Storage, Static, Star, OpenParen, CloseParen, OpenBracket, CloseBracket, Generic, OffsetOf, Colon, Comma, End, TypeWord, Qualifier, Typedef, Semicolon, Equals, OpenBrace}
use Rattle.c_parser.specs.Declarators.{AreThere, IsWritten, MayDerive, need_name}
use Rattle.c_parser.specs.Grammar.{IsBefore, past, name_by}
use Rattle.c_parser.specs.Kinds.{kind_at, is_size, starts_type, ends_type, opens_parameters, qualifies_at, is_word, grouped, behind_pointers}
use Rattle.c_parser.specs.Reading.{Holds, HoldFronts, HoldQualifiers, Reads, HoldsNaming, HoldParameters, HoldRow, HoldsDeclaring, HoldsGrouping, HoldsDeriving, HoldDerivings, HoldsBound, HoldNames}
use Rattle.c_parser.specs.TypeNames.{RowEnd, at_close, at_dots}
use Rattle.c_parser.proofs.OneReading.{placed_only}
use Rattle.c_parser.proofs.Forth.{naming_forth, grouping_forth, deriving_forth}
use Rattle.c_parser.proofs.Marks.{clash, stops_at, is_start, no_type}
use Rattle.c_parser.proofs.Typed.{From, later, next, under}
use Rattle.c_parser.proofs.Types.{naming_starts, pointers_only, pointers_forth, qualifiers_only, qualifiers_forth}
use Rattle.c_parser.proofs.Views.{starts, front_starts}
use Rattle.c_parser.proofs.Words.{Qualifies, by_qualifier, by_lone, qualifies_view, qualifies_starts, static_qualifies_not, or_left, named_word, grouped_opens_not}
use Rattle.c_parser.proofs.NameLists.{names_only, closes}
use Rattle.c_parser.specs.declared.kinds.Named.{Named}
use Rattle.c_parser.proofs.Hiding.{hidden_length, ends_was, row_end_kept}

-- behind a `*` in front of an operand something begins too
mutual
  pub star_starts : (ks : List Kind) → (t : Tree) → (a b : ℕ) → Holds ks t a b → kind_at ks a ≡ Star → is_start (kind_at ks (a + 1)) ≡ true
  star_starts ks (Name_of n) a b h k = clash (kind_at ks a) Identifier Star h.1 k (λ x. omega (arith, x))
  star_starts ks (Constant_of n) a b h k = clash (kind_at ks a) Constant Star h.1 k (λ x. omega (arith, x))
  star_starts ks (Text_of ns) a b h k = clash (kind_at ks a) Text Star h.0 k (λ x. omega (arith, x))
  star_starts ks (Paren_of o t c) a b h k = clash (kind_at ks a) OpenParen Star h.1 k (λ x. omega (arith, x))
  star_starts ks (Postfix_of f bs) a b h k = star_starts ks f a h.0 h.3 k
  star_starts ks (Unary_of fs t) a b h k = star_in_front ks 15 fs a h.0 h.1 h.2 (starts ks t h.0 b h.4) k
  star_starts ks (Binary_of f bs) a b h k = star_starts ks f a h.0 h.4 k
  star_starts ks (Conditional_of fs t) a b h k = star_in_front ks 3 fs a h.0 h.1 h.2 (starts ks t h.0 b h.4) k
  star_starts ks (Assign_of fs t) a b h k = star_in_front ks 2 fs a h.0 h.1 h.2 (starts ks t h.0 b h.4) k
  star_starts ks (Of_type o p t c) a b h k = absurd (true≢false (sym h.1 ∙ ap is_size k))
  star_starts ks (Compound_of o t c i) a b h k = clash (kind_at ks a) OpenParen Star h.1 k (λ x. omega (arith, x))
  star_starts ks (Generic_of g o t gs c) a b h k = clash (kind_at ks a) Generic Star h.2 k (λ x. omega (arith, x))
  star_starts ks (Offset_of g o t m n bs c) a b h k = clash (kind_at ks a) OffsetOf Star h.1 k (λ x. omega (arith, x))

  star_in_front : (ks : List Kind) → (l : ℕ) → (fs : Fronts) → (a m : ℕ) → IsBefore fs → HoldFronts ks l fs a m → is_start (kind_at ks m) ≡ true
      → kind_at ks a ≡ Star → is_start (kind_at ks (a + 1)) ≡ true
  star_in_front ks l None_before a m i h s k = absurd i
  star_in_front ks l (Front_then (Operator_of o) None_before) a m i h s k =
      subst (λ x. is_start (kind_at ks x) ≡ true) (h.2 ∙ h.1.3) s
  star_in_front ks l (Front_then (Operator_of o) (Front_then x xs)) a m i h s k =
      subst (λ y. is_start (kind_at ks y) ≡ true) h.1.3 (front_starts ks l (Front_then x xs) h.0 m tt h.2)
  star_in_front ks l (Front_then (Cast_of o t c) xs) a m i h s k = clash (kind_at ks a) OpenParen Star h.1.2 k (λ x. omega (arith, x))
  star_in_front ks l (Front_then (Choice_of t q e c) xs) a m i h s k = star_starts ks t a q h.1.2 k
  star_in_front ks l (Front_then (Left_of t o) xs) a m i h s k = star_starts ks t a o h.1.2 k

-- what stands in the brackets of an array: `static` first, or qualifiers, and behind these what isn't one
pub no_start : {A : Type 0} → (ks : List Kind) → (a : ℕ) → (k : Kind) → is_start (kind_at ks a) ≡ true → kind_at ks a ≡ k → is_start k ≡ false → A
no_start ks a k s e n = absurd (true≢false (sym s ∙ ap is_start e ∙ n))

start_qualifies_not : (ks : List Kind) → (a : ℕ) → is_start (kind_at ks a) ≡ true → qualifies_at ks a ≡ true → ⊥
start_qualifies_not ks a s q = true≢false (sym (qualifies_starts ks a q) ∙ no_type (kind_at ks a) s)

pub kind_qualifies_not : (ks : List Kind) → (a : ℕ) → (k : Kind) → kind_at ks a ≡ k → starts_type k ≡ false → qualifies_at ks a ≡ true → ⊥
kind_qualifies_not ks a k e n q = true≢false (sym (qualifies_starts ks a q) ∙ ap starts_type e ∙ n)

-- what stands behind the qualifiers, up to the `]`
pub data Behind (ks : List Kind) (a k c : ℕ) (ns : List ℕ) (x : Bound) : Type 0 where
  nothing : x ≡ Unsized_of ns → c ≡ k → Behind ks a k c ns x
  a_star : x ≡ Any_size_of ns k → kind_at ks k ≡ Star → c ≡ k + 1 → Behind ks a k c ns x
  a_size : (t : Tree) → x ≡ Sized_of ns t → Reads ks 2 t k c → Behind ks a k c ns x
  a_static : (t : Tree) → x ≡ Sized_static_of ns k t → AreThere ns → kind_at ks k ≡ Static → Reads ks 2 t (k + 1) c → Behind ks a k c ns x

pub data Bounding (ks : List Kind) (x : Bound) (a c : ℕ) : Type 0 where
  first_static : (ns : List ℕ) → (k : ℕ) → (t : Tree) → x ≡ Static_sized_of a ns t → kind_at ks a ≡ Static
      → HoldQualifiers ks ns (a + 1) k → (qualifies_at ks k ≡ true → ⊥) → Reads ks 2 t k c → Bounding ks x a c
  first_others : (ns : List ℕ) → (k : ℕ) → HoldQualifiers ks ns a k → (qualifies_at ks k ≡ true → ⊥) → (kind_at ks a ≡ Static → ⊥)
      → Behind ks a k c ns x → Bounding ks x a c

begins_static_not : (ks : List Kind) → (ns : List ℕ) → (a k : ℕ) → HoldQualifiers ks ns a k → (kind_at ks k ≡ Static → ⊥) → kind_at ks a ≡ Static → ⊥
begins_static_not ks [] a k h n e = n (ap (λ x. kind_at ks x) h ∙ e)
begins_static_not ks (q ∷ ns) a k h n e = static_qualifies_not ks a e h.1

there_static_not : (ks : List Kind) → (ns : List ℕ) → (a k : ℕ) → HoldQualifiers ks ns a k → AreThere ns → kind_at ks a ≡ Static → ⊥
there_static_not ks [] a k h t e = t
there_static_not ks (q ∷ ns) a k h t e = static_qualifies_not ks a e h.1

pub bound_view : (ks : List Kind) → (x : Bound) → (a c : ℕ) → HoldsBound ks x a c → kind_at ks c ≡ CloseBracket → Bounding ks x a c
bound_view ks (Unsized_of ns) a c h e =
    first_others
    ns
    c
    h
    (kind_qualifies_not ks c CloseBracket e refl)
    (begins_static_not ks ns a c h (λ x. clash (kind_at ks c) CloseBracket Static e x (λ y. omega (arith, y))))
    (nothing refl refl)
bound_view ks (Any_size_of ns n) a c h e =
    first_others
    ns
    n
    h.0
    (kind_qualifies_not ks n Star h.1 refl)
    (begins_static_not ks ns a n h.0 (λ x. clash (kind_at ks n) Star Static h.1 x (λ y. omega (arith, y))))
    (a_star refl h.1 h.2)
bound_view ks (Sized_of ns t) a c h e =
    let s = starts ks t h.0 c h.3 in
    first_others
    ns
    h.0
    h.1
    (start_qualifies_not ks h.0 s)
    (begins_static_not ks ns a h.0 h.1 (λ x. no_start ks h.0 Static s x refl))
    (a_size t refl (h.2, h.3))
bound_view ks (Static_sized_of n ns t) a c h e =
    let s = starts ks t h.0 c h.5 in
    first_static ns h.0 t (ap (λ x. Static_sized_of x ns t) h.1) h.2 h.3 (start_qualifies_not ks h.0 s) (h.4, h.5)
bound_view ks (Sized_static_of ns n t) a c h e =
    first_others
    ns
    n
    h.1
    (λ q. static_qualifies_not ks n h.2 q)
    (there_static_not ks ns a n h.1 h.0)
    (a_static t refl h.0 h.2 (h.3, h.4))

abbrev pub OnlyBound : List Kind → ℕ → Bound → ℕ → Type 0
OnlyBound ks a x c = (x' : Bound) → (c' : ℕ) → HoldsBound ks x' a c' → kind_at ks c' ≡ CloseBracket → (x ≡ x') × (c ≡ c')

size_only : (ks : List Kind) → (t : Tree) → (a c : ℕ) → From ks a → Reads ks 2 t a c → kind_at ks c ≡ CloseBracket
    → (t' : Tree) → (c' : ℕ) → Reads ks 2 t' a c' → kind_at ks c' ≡ CloseBracket → (t ≡ t') × (c ≡ c')
size_only ks t a c w r e t' c' r' e' =
    placed_only
    ks
    2
    t
    a
    c
    w
    (omega arith)
    r
    (stops_at ks 2 c CloseBracket e (omega arith))
    t'
    c'
    r'
    (stops_at ks 2 c' CloseBracket e' (omega arith))

-- two at one place
rest_only : (ks : List Kind) → (a k c : ℕ) → (ns : List ℕ) → (x : Bound) → From ks k → Behind ks a k c ns x → kind_at ks c ≡ CloseBracket
    → (c' : ℕ) → (x' : Bound) → Behind ks a k c' ns x' → kind_at ks c' ≡ CloseBracket → (x ≡ x') × (c ≡ c')
rest_only ks a k c ns x w (nothing i f) e c' x' (nothing i' f') e' = (i ∙ sym i', f ∙ sym f')
rest_only ks a k c ns x w (nothing i f) e c' x' (a_star i' s' f') e' =
    clash (kind_at ks k) CloseBracket Star (ap (λ y. kind_at ks y) (sym f) ∙ e) s' (λ y. omega (arith, y))
rest_only ks a k c ns x w (nothing i f) e c' x' (a_size t' i' r') e' =
    no_start ks k CloseBracket (starts ks t' k c' r'.1) (ap (λ y. kind_at ks y) (sym f) ∙ e) refl
rest_only ks a k c ns x w (nothing i f) e c' x' (a_static t' i' n' s' r') e' =
    clash (kind_at ks k) CloseBracket Static (ap (λ y. kind_at ks y) (sym f) ∙ e) s' (λ y. omega (arith, y))
rest_only ks a k c ns x w (a_star i s f) e c' x' (nothing i' f') e' =
    clash (kind_at ks k) Star CloseBracket s (ap (λ y. kind_at ks y) (sym f') ∙ e') (λ y. omega (arith, y))
rest_only ks a k c ns x w (a_star i s f) e c' x' (a_star i' s' f') e' = (i ∙ sym i', f ∙ sym f')
rest_only ks a k c ns x w (a_star i s f) e c' x' (a_size t' i' r') e' =
    no_start ks (k + 1) CloseBracket (star_starts ks t' k c' r'.1 s) (ap (λ y. kind_at ks y) (sym f) ∙ e) refl
rest_only ks a k c ns x w (a_star i s f) e c' x' (a_static t' i' n' s' r') e' =
    clash (kind_at ks k) Star Static s s' (λ y. omega (arith, y))
rest_only ks a k c ns x w (a_size t i r) e c' x' (nothing i' f') e' =
    no_start ks k CloseBracket (starts ks t k c r.1) (ap (λ y. kind_at ks y) (sym f') ∙ e') refl
rest_only ks a k c ns x w (a_size t i r) e c' x' (a_star i' s' f') e' =
    no_start ks (k + 1) CloseBracket (star_starts ks t k c r.1 s') (ap (λ y. kind_at ks y) (sym f') ∙ e') refl
rest_only ks a k c ns x w (a_size t i r) e c' x' (a_size t' i' r') e' =
    let same = size_only ks t k c w r e t' c' r' e' in
    (i ∙ ap (λ y. Sized_of ns y) same.0 ∙ sym i', same.1)
rest_only ks a k c ns x w (a_size t i r) e c' x' (a_static t' i' n' s' r') e' = no_start ks k Static (starts ks t k c r.1) s' refl
rest_only ks a k c ns x w (a_static t i n s r) e c' x' (nothing i' f') e' =
    clash (kind_at ks k) Static CloseBracket s (ap (λ y. kind_at ks y) (sym f') ∙ e') (λ y. omega (arith, y))
rest_only ks a k c ns x w (a_static t i n s r) e c' x' (a_star i' s' f') e' =
    clash (kind_at ks k) Static Star s s' (λ y. omega (arith, y))
rest_only ks a k c ns x w (a_static t i n s r) e c' x' (a_size t' i' r') e' = no_start ks k Static (starts ks t' k c' r'.1) s refl
rest_only ks a k c ns x w (a_static t i n s r) e c' x' (a_static t' i' n' s' r') e' =
    let same = size_only ks t (k + 1) c (next ks k w) r e t' c' r' e' in
    (i ∙ ap (λ y. Sized_static_of ns k y) same.0 ∙ sym i', same.1)

views_only : (ks : List Kind) → (a c : ℕ) → (x : Bound) → From ks a → Bounding ks x a c → kind_at ks c ≡ CloseBracket
    → (c' : ℕ) → (x' : Bound) → Bounding ks x' a c' → kind_at ks c' ≡ CloseBracket → (x ≡ x') × (c ≡ c')
views_only ks a c x w (first_static ns k t i s h n r) e c' x' (first_static ns' k' t' i' s' h' n' r') e' =
    let one = qualifiers_only ks ns (a + 1) k h n ns' k' h' n' in
    let w' = later ks a k (omega (arith, qualifiers_forth ks ns (a + 1) k h)) w in
    let two = size_only ks t k c w' r e t' c' (subst (λ y. Reads ks 2 t' y c') (sym one.1) r') e' in (
      i ∙ ap (λ y. Static_sized_of a y t) one.0 ∙ ap (λ y. Static_sized_of a ns' y) two.0 ∙ sym i',
      two.1,
    )
views_only ks a c x w (first_static ns k t i s h n r) e c' x' (first_others ns' k' h' n' u' v') e' = absurd (u' s)
views_only ks a c x w (first_others ns k h n u v) e c' x' (first_static ns' k' t' i' s' h' n' r') e' = absurd (u s')
views_only ks a c x w (first_others ns k h n u v) e c' x' (first_others ns' k' h' n' u' v') e' =
    let one = qualifiers_only ks ns a k h n ns' k' h' n' in
    rest_only
    ks
    a
    k
    c
    ns
    x
    (later ks a k (qualifiers_forth ks ns a k h) w)
    v
    e
    c'
    x'
    (subst (λ y. Behind ks a k c' y x') (sym one.0) (subst (λ y. Behind ks a y c' ns' x') (sym one.1) v'))
    e'

pub bound_only : (ks : List Kind) → (x : Bound) → (a c : ℕ) → From ks a → HoldsBound ks x a c → kind_at ks c ≡ CloseBracket → OnlyBound ks a x c
bound_only ks x a c w h e x' c' h' e' = views_only ks a c x w (bound_view ks x a c h e) e c' x' (bound_view ks x' a c' h' e') e'

-- arrays and functions
row_ends_by : (ks : List Kind) → (c : ℕ) → RowEnd ks c → ends_type (kind_at ks c) ≡ true
row_ends_by ks c (at_close e) = ap ends_type e
row_ends_by ks c (at_dots e d) = ap ends_type e

pub row_ends : (ks : List Kind) → (ps : Row) → (m c : ℕ) → HoldRow ks ps m c → RowEnd ks c → ends_type (kind_at ks m) ≡ true
row_ends ks No_more m c h e = ap (λ x. ends_type (kind_at ks x)) (sym h) ∙ row_ends_by ks c e
row_ends ks (Parameter_then o p ps) m c h e = ap ends_type h.2

-- behind a parameter the name of a type may end
pub past_ends : (ks : List Kind) → (p : Naming) → (ps : Row) → (m c : ℕ) → HoldRow (past ks p) ps m c → RowEnd ks c → ends_type (kind_at ks m) ≡ true
past_ends ks p ps m c h e = ends_was ks (name_by p) m (row_ends (past ks p) ps m c h (row_end_kept ks (name_by p) c e))

row_end_not : {A : Type 0} → (ks : List Kind) → (c : ℕ) → RowEnd ks c → kind_at ks c ≡ Comma → (p : Naming) → (m : ℕ) → HoldsNaming ks true p (c + 1) m → A
row_end_not ks c (at_close e) k p m h = clash (kind_at ks c) CloseParen Comma e k (λ x. omega (arith, x))
row_end_not ks c (at_dots e d) k p m h = absurd (true≢false (sym (naming_starts ks true p (c + 1) m h) ∙ ap starts_type d))

-- a row behind a parameter that is the same
pub row_moved : (ks : List Kind) → (p p' : Naming) → p ≡ p' → (ps : Row) → (m m' c : ℕ) → m ≡ m' → HoldRow (past ks p') ps m' c
    → HoldRow (past ks p) ps m c
row_moved ks p p' e ps m m' c f h =
    subst (λ x. HoldRow (past ks x) ps m c) (sym e) (subst (λ x. HoldRow (past ks p') ps x c) (sym f) h)

past_from : (ks : List Kind) → (p : Naming) → (a : ℕ) → From ks a → From (past ks p) a
past_from ks p a w = under ks (past ks p) a (hidden_length ks (name_by p)) w

pub row_only : (ks : List Kind) → (ps : Row) → (a c : ℕ) → From ks a → HoldRow ks ps a c → RowEnd ks c
    → (ps' : Row) → (c' : ℕ) → HoldRow ks ps' a c' → RowEnd ks c' → (ps ≡ ps') × (c ≡ c')
row_only ks No_more a c w h e No_more c' h' e' = (refl, h ∙ sym h')
row_only ks No_more a c w h e (Parameter_then o p ps) c' h' e' =
    row_end_not ks a (subst (λ x. RowEnd ks x) h e) h'.2 p h'.0 h'.3
row_only ks (Parameter_then o p ps) a c w h e No_more c' h' e' =
    row_end_not ks a (subst (λ x. RowEnd ks x) h' e') h.2 p h.0 h.3
row_only ks (Parameter_then o p ps) a c w h e (Parameter_then o' p' ps') c' h' e' =
    let one =
    w
    ks
    refl
    (a + 1)
    (omega arith)
    true
    p
    h.0
    h.3
    (past_ends ks p ps h.0 c h.4 e)
    p'
    h'.0
    h'.3
    (past_ends ks p' ps' h'.0 c' h'.4 e') in
    let w' : From ks h.0 = later ks a h.0 (omega (arith, naming_forth ks true p (a + 1) h.0 h.3)) w in
    let two =
    row_only
    (past ks p)
    ps
    h.0
    c
    (past_from ks p h.0 w')
    h.4
    (row_end_kept ks (name_by p) c e)
    ps'
    c'
    (row_moved ks p p' one.0 ps' h.0 h'.0 c' one.1 h'.4)
    (row_end_kept ks (name_by p) c' e') in (
      ap (λ x. Parameter_then x p ps) (h.1 ∙ sym h'.1)
          ∙ ap (λ x. Parameter_then o' x ps) one.0
          ∙ ap (λ x. Parameter_then o' p' x) two.0,
      two.1,
    )

-- parameters, up to the `)`
pub data Closing (ks : List Kind) (ps : Parameters) (p : Naming) (q : Row) (n c : ℕ) : Type 0 where
  fixed : ps ≡ Fixed_of p q → c ≡ n → kind_at ks n ≡ CloseParen → Closing ks ps p q n c
  variadic : ps ≡ Variadic_of p q n (n + 1) → c ≡ n + 2 → kind_at ks n ≡ Comma → Closing ks ps p q n c

pub data Parametered (ks : List Kind) (ps : Parameters) (a c : ℕ) : Type 0 where
  none_told : ps ≡ No_parameters → c ≡ a → Parametered ks ps a c
  some_told : (p : Naming) → (q : Row) → (m n : ℕ) → HoldsNaming ks true p a m → HoldRow (past ks p) q m n → RowEnd ks n
      → Closing ks ps p q n c → Parametered ks ps a c
  names_told : (ns : List (ℕ × ℕ)) → ps ≡ Names_of a ns → kind_at ks a ≡ Identifier → HoldNames ks ns (a + 1) c → Parametered ks ps a c

pub parameters_view : (ks : List Kind) → (ps : Parameters) → (a c : ℕ) → HoldParameters ks ps a c → kind_at ks c ≡ CloseParen → Parametered ks ps a c
parameters_view ks No_parameters a c h e = none_told refl h
parameters_view ks (Names_of n ns) a c h e = names_told ns (ap (λ x. Names_of x ns) h.0) h.1 h.2
parameters_view ks (Fixed_of p q) a c h e = some_told p q h.0 c h.1 h.2 (at_close e) (fixed refl refl e)
parameters_view ks (Variadic_of p q o d) a c h e =
    let two : (o + 1) + 1 ≡ o + 2 = omega arith in
    some_told
    p
    q
    h.0
    o
    h.1
    h.2
    (at_dots h.3 (ap (λ x. kind_at ks x) (sym h.4) ∙ h.5))
    (variadic (ap (λ x. Variadic_of p q o x) h.4) (h.6 ∙ ap (λ x. x + 1) h.4 ∙ two) h.3)

closing_only : (ks : List Kind) → (ps : Parameters) → (p : Naming) → (q : Row) → (n c : ℕ) → Closing ks ps p q n c
    → (ps' : Parameters) → (c' : ℕ) → Closing ks ps' p q n c' → (ps ≡ ps') × (c ≡ c')
closing_only ks ps p q n c (fixed i f k) ps' c' (fixed i' f' k') = (i ∙ sym i', f ∙ sym f')
closing_only ks ps p q n c (fixed i f k) ps' c' (variadic i' f' k') = clash (kind_at ks n) CloseParen Comma k k' (λ x. omega (arith, x))
closing_only ks ps p q n c (variadic i f k) ps' c' (fixed i' f' k') = clash (kind_at ks n) Comma CloseParen k k' (λ x. omega (arith, x))
closing_only ks ps p q n c (variadic i f k) ps' c' (variadic i' f' k') = (i ∙ sym i', f ∙ sym f')

pub no_parameter : {A : Type 0} → (ks : List Kind) → (a c : ℕ) → c ≡ a → kind_at ks c ≡ CloseParen → (p : Naming) → (m : ℕ) → HoldsNaming ks true p a m → A
no_parameter ks a c f e p m h =
    absurd (true≢false (sym (naming_starts ks true p a m h) ∙ ap starts_type (ap (λ x. kind_at ks x) (sym f) ∙ e)))

no_naming : {A : Type 0} → (ks : List Kind) → (a : ℕ) → kind_at ks a ≡ Identifier → (p : Naming) → (m : ℕ) → HoldsNaming ks true p a m → A
no_naming ks a k p m h = absurd (true≢false (sym (naming_starts ks true p a m h) ∙ ap starts_type k))

not_closed : {A : Type 0} → (ks : List Kind) → (a c : ℕ) → c ≡ a → kind_at ks c ≡ CloseParen → kind_at ks a ≡ Identifier → A
not_closed ks a c f e k =
    clash (kind_at ks a) CloseParen Identifier (ap (λ x. kind_at ks x) (sym f) ∙ e) k (λ x. omega (arith, x))

told_only : (ks : List Kind) → (ps : Parameters) → (a c : ℕ) → From ks a → Parametered ks ps a c → kind_at ks c ≡ CloseParen
    → (ps' : Parameters) → (c' : ℕ) → Parametered ks ps' a c' → kind_at ks c' ≡ CloseParen → (ps ≡ ps') × (c ≡ c')
told_only ks ps a c w (none_told i f) e ps' c' (none_told i' f') e' = (i ∙ sym i', f ∙ sym f')
told_only ks ps a c w (none_told i f) e ps' c' (some_told p q m n h g z v) e' = no_parameter ks a c f e p m h
told_only ks ps a c w (some_told p q m n h g z v) e ps' c' (none_told i' f') e' = no_parameter ks a c' f' e' p m h
told_only ks ps a c w (none_told i f) e ps' c' (names_told ns' i' k' h') e' = not_closed ks a c f e k'
told_only ks ps a c w (names_told ns i k h) e ps' c' (none_told i' f') e' = not_closed ks a c' f' e' k
told_only ks ps a c w (some_told p q m n h g z v) e ps' c' (names_told ns' i' k' h') e' = no_naming ks a k' p m h
told_only ks ps a c w (names_told ns i k h) e ps' c' (some_told p q m n h' g z v) e' = no_naming ks a k p m h'
told_only ks ps a c w (names_told ns i k h) e ps' c' (names_told ns' i' k' h') e' =
    let same = names_only ks ns (a + 1) c h (closes ks c e) ns' c' h' (closes ks c' e') in
    (i ∙ ap (λ x. Names_of a x) same.0 ∙ sym i', same.1)
told_only ks ps a c w (some_told p q m n h g z v) e ps' c' (some_told p' q' m' n' h' g' z' v') e' =
    let one = w ks refl a (omega arith) true p m h (past_ends ks p q m n g z) p' m' h' (past_ends ks p' q' m' n' g' z') in
    let two =
    row_only
    (past ks p)
    q
    m
    n
    (past_from ks p m (later ks a m (naming_forth ks true p a m h) w))
    g
    (row_end_kept ks (name_by p) n z)
    q'
    n'
    (row_moved ks p p' one.0 q' m m' n' one.1 g')
    (row_end_kept ks (name_by p) n' z') in
    closing_only
    ks
    ps
    p
    q
    n
    c
    v
    ps'
    c'
    (subst
    (λ x. Closing ks ps' x q n c')
    (sym one.0)
    (subst (λ x. Closing ks ps' p' x n c') (sym two.0) (subst (λ x. Closing ks ps' p' q' x c') (sym two.1) v')))

pub parameters_only : (ks : List Kind) → (ps : Parameters) → (a c : ℕ) → From ks a → HoldParameters ks ps a c → kind_at ks c ≡ CloseParen
    → (ps' : Parameters) → (c' : ℕ) → HoldParameters ks ps' a c' → kind_at ks c' ≡ CloseParen → (ps ≡ ps') × (c ≡ c')
parameters_only ks ps a c w h e ps' c' h' e' =
    told_only ks ps a c w (parameters_view ks ps a c h e) e ps' c' (parameters_view ks ps' a c' h' e') e'

pub deriving_only : (ks : List Kind) → (d : Deriving) → (a b : ℕ) → From ks a → HoldsDeriving ks d a b
    → (d' : Deriving) → (b' : ℕ) → HoldsDeriving ks d' a b' → (d ≡ d') × (b ≡ b')
deriving_only ks (Array_of o x c) a b w h (Array_of o' x' c') b' h' =
    let same = bound_only ks x (a + 1) c (next ks a w) h.2 h.3 x' c' h'.2 h'.3 in (
      ap (λ y. Array_of y x c) (h.0 ∙ sym h'.0) ∙ ap (λ y. Array_of o' y c) same.0 ∙ ap (λ y. Array_of o' x' y) same.1,
      h.4 ∙ ap (λ y. y + 1) same.1 ∙ sym h'.4,
    )
deriving_only ks (Array_of o x c) a b w h (Function_of o' ps c') b' h' =
    clash (kind_at ks a) OpenBracket OpenParen h.1 h'.1 (λ y. omega (arith, y))
deriving_only ks (Function_of o ps c) a b w h (Array_of o' x c') b' h' =
    clash (kind_at ks a) OpenParen OpenBracket h.1 h'.1 (λ y. omega (arith, y))
deriving_only ks (Function_of o ps c) a b w h (Function_of o' ps' c') b' h' =
    let same = parameters_only ks ps (a + 1) c (next ks a w) h.2 h.3 ps' c' h'.2 h'.3 in (
      ap (λ y. Function_of y ps c) (h.0 ∙ sym h'.0) ∙ ap (λ y. Function_of o' y c) same.0 ∙ ap (λ y. Function_of o' ps' y) same.1,
      h.4 ∙ ap (λ y. y + 1) same.1 ∙ sym h'.4,
    )

pub deriving_ends_not : {A : Type 0} → (ks : List Kind) → (d : Deriving) → (a b : ℕ) → HoldsDeriving ks d a b → ends_type (kind_at ks a) ≡ true → A
deriving_ends_not ks (Array_of o x c) a b h e = absurd (true≢false (sym e ∙ ap ends_type h.1))
deriving_ends_not ks (Function_of o ps c) a b h e = absurd (true≢false (sym e ∙ ap ends_type h.1))

pub derivings_only : (ks : List Kind) → (ds : Derivings) → (a b : ℕ) → From ks a → HoldDerivings ks ds a b → ends_type (kind_at ks b) ≡ true
    → (ds' : Derivings) → (b' : ℕ) → HoldDerivings ks ds' a b' → ends_type (kind_at ks b') ≡ true → (ds ≡ ds') × (b ≡ b')
derivings_only ks No_derivings a b w h e No_derivings b' h' e' = (refl, h ∙ sym h')
derivings_only ks No_derivings a b w h e (Deriving_then d ds) b' h' e' =
    deriving_ends_not ks d a h'.0 h'.1 (ap (λ x. ends_type (kind_at ks x)) (sym h) ∙ e)
derivings_only ks (Deriving_then d ds) a b w h e No_derivings b' h' e' =
    deriving_ends_not ks d a h.0 h.1 (ap (λ x. ends_type (kind_at ks x)) (sym h') ∙ e')
derivings_only ks (Deriving_then d ds) a b w h e (Deriving_then d' ds') b' h' e' =
    let one = deriving_only ks d a h.0 w h.1 d' h'.0 h'.1 in
    let two =
    derivings_only
    ks
    ds
    h.0
    b
    (later ks a h.0 (deriving_forth ks d a h.0 h.1) w)
    h.2
    e
    ds'
    b'
    (subst (λ x. HoldDerivings ks ds' x b') (sym one.1) h'.2)
    e' in
    (ap (λ x. Deriving_then x ds) one.0 ∙ ap (λ x. Deriving_then d' x) two.0, two.1)

-- in front of such a token pointers may end: a name, what an array or a function or a group begins with, or what ends a name
abbrev pub ends_pointers : Kind → Bool
ends_pointers Identifier = true
ends_pointers OpenParen = true
ends_pointers OpenBracket = true
ends_pointers CloseParen = true
ends_pointers Colon = true
ends_pointers Comma = true
ends_pointers Semicolon = true
ends_pointers Equals = true
ends_pointers OpenBrace = true
ends_pointers End = true
ends_pointers _ = false

-- behind pointers a group, an array or a function begins, or the name ends
pub ends_more : (k : Kind) → ends_type k ≡ true → ends_pointers k ≡ true
ends_more CloseParen h = refl
ends_more Colon h = refl
ends_more Comma h = refl
ends_more Semicolon h = refl
ends_more Equals h = refl
ends_more OpenBrace h = refl
ends_more End h = refl
ends_more _ h = absurd (true≢false (sym h))

pub derivings_begin : (ks : List Kind) → (ds : Derivings) → (a b : ℕ) → HoldDerivings ks ds a b → ends_type (kind_at ks b) ≡ true
    → ends_pointers (kind_at ks a) ≡ true
derivings_begin ks No_derivings a b h e = ends_more (kind_at ks a) (ap (λ x. ends_type (kind_at ks x)) (sym h) ∙ e)
derivings_begin ks (Deriving_then (Array_of o x c) ds) a b h e = ap ends_pointers h.1.1
derivings_begin ks (Deriving_then (Function_of o ps c) ds) a b h e = ap ends_pointers h.1.1

-- the same, or a typedef name that stands for a name
abbrev pub ends_stars : Kind → Bool
ends_stars Identifier = true
ends_stars (TypeName n) = true
ends_stars OpenParen = true
ends_stars OpenBracket = true
ends_stars CloseParen = true
ends_stars Colon = true
ends_stars Comma = true
ends_stars Semicolon = true
ends_stars Equals = true
ends_stars OpenBrace = true
ends_stars End = true
ends_stars _ = false

stars_wider : (k : Kind) → ends_pointers k ≡ true → ends_stars k ≡ true
stars_wider Identifier h = refl
stars_wider OpenParen h = refl
stars_wider OpenBracket h = refl
stars_wider CloseParen h = refl
stars_wider Colon h = refl
stars_wider Comma h = refl
stars_wider Semicolon h = refl
stars_wider Equals h = refl
stars_wider OpenBrace h = refl
stars_wider End h = refl
stars_wider _ h = absurd (true≢false (sym h))

pub word_stars : (k : Kind) → is_word k ≡ true → ends_stars k ≡ true
word_stars Identifier h = refl
word_stars (TypeName n) h = refl
word_stars _ h = absurd (true≢false (sym h))

pub grouping_begins : (ks : List Kind) → (y : Named) → (g : Grouping) → (ds : Derivings) → (a m b : ℕ) → HoldsGrouping ks y g a m → HoldDerivings ks ds m b
    → ends_type (kind_at ks b) ≡ true → ends_stars (kind_at ks a) ≡ true
grouping_begins ks y No_group ds a m b h g e =
    stars_wider (kind_at ks a) (ap (λ x. ends_pointers (kind_at ks x)) (sym h) ∙ derivings_begin ks ds m b g e)
grouping_begins ks y (Named_of n) ds a m b h g e = word_stars (kind_at ks a) (named_word y (kind_at ks a) h.1)
grouping_begins ks y (Group_of o d c) ds a m b h g e = ap ends_stars h.1

pub no_star : (ks : List Kind) → (a : ℕ) → ends_stars (kind_at ks a) ≡ true → kind_at ks a ≡ Star → ⊥
no_star ks a h e = true≢false (sym h ∙ ap ends_stars e)

no_qualifying : (ks : List Kind) → (a : ℕ) → ends_stars (kind_at ks a) ≡ true → Qualifies ks a → ⊥
no_qualifying ks a h (by_qualifier e) = true≢false (sym h ∙ ap ends_stars e)
no_qualifying ks a h (by_lone e n) = true≢false (sym h ∙ ap ends_stars e)

pub no_qualifier : (ks : List Kind) → (a : ℕ) → ends_stars (kind_at ks a) ≡ true → qualifies_at ks a ≡ true → ⊥
no_qualifier ks a h q = no_qualifying ks a h (qualifies_view ks a q)

-- behind the `(` of a group stands nothing that shows parameters
pub written_begins : (ks : List Kind) → (y : Named) → (d : Declaring) → (a b : ℕ) → IsWritten d → HoldsDeclaring ks (grouped y) d a b
    → opens_parameters (kind_at ks a) ≡ false
written_begins ks y (Declaring_of (p ∷ ps) g ds) a b i h = ap opens_parameters h.2.2
written_begins ks y (Declaring_of [] (Named_of n) ds) a b i h =
    ap (λ x. opens_parameters (kind_at ks x)) (sym h.2) ∙ grouped_opens_not y (kind_at ks h.0) h.3.1
written_begins ks y (Declaring_of [] (Group_of o d c) ds) a b i h = ap opens_parameters (ap (λ x. kind_at ks x) (sym h.2) ∙ h.3.1)
written_begins ks y (Declaring_of [] No_group (Deriving_then (Array_of o x c) ds)) a b i h =
    ap opens_parameters (ap (λ x. kind_at ks x) (sym (h.3 ∙ h.2)) ∙ h.4.1.1)
written_begins ks y (Declaring_of [] No_group (Deriving_then (Function_of o ps c) ds)) a b i h =
    ap opens_parameters (ap (λ x. kind_at ks x) (sym (h.3 ∙ h.2)) ∙ h.4.1.1)
written_begins ks y (Declaring_of [] No_group No_derivings) a b i h = absurd i

start_opens : (k : Kind) → starts_type k ≡ true → opens_parameters k ≡ true
start_opens TypeWord h = refl
start_opens Qualifier h = refl
start_opens Tag h = refl
start_opens Enum h = refl
start_opens Align h = refl
start_opens (TypeName n) h = refl
start_opens Atomic h = refl
start_opens Storage h = refl
start_opens Static h = refl
start_opens Typedef h = refl
start_opens _ h = absurd (true≢false (sym h))

told_opens : (ks : List Kind) → (ps : Parameters) → (a c : ℕ) → Parametered ks ps a c → kind_at ks c ≡ CloseParen → (are_names ps ≡ true → ⊥)
    → opens_parameters (kind_at ks a) ≡ true
told_opens ks ps a c (names_told ns i k h) e n = absurd (n (ap are_names i))
told_opens ks ps a c (none_told i f) e n = ap opens_parameters (ap (λ x. kind_at ks x) (sym f) ∙ e)
told_opens ks ps a c (some_told p q m n h g z v) e u = start_opens (kind_at ks a) (naming_starts ks true p a m h)

-- a `(` that begins no group has parameters behind it, where no name stands in front
pub parameters_next : (ks : List Kind) → (ds : Derivings) → (a b : ℕ) → HoldDerivings ks ds a b → MayDerive No_group ds
    → ends_type (kind_at ks b) ≡ true → kind_at ks a ≡ OpenParen → opens_parameters (kind_at ks (a + 1)) ≡ true
parameters_next ks No_derivings a b h q e k = absurd (true≢false (sym e ∙ ap (λ x. ends_type (kind_at ks x)) h ∙ ap ends_type k))
parameters_next ks (Deriving_then (Array_of o x c) ds) a b h q e k = clash (kind_at ks a) OpenBracket OpenParen h.1.1 k (λ y. omega (arith, y))
parameters_next ks (Deriving_then (Function_of o ps c) ds) a b h q e k =
    told_opens
    ks
    ps
    (a + 1)
    c
    (parameters_view ks ps (a + 1) c h.1.2 h.1.3)
    h.1.3
    (λ y. true≢false (sym (q (or_left (are_names ps) (need_name ds) y))))

word_ends_not : (k : Kind) → is_word k ≡ true → ends_type k ≡ false
word_ends_not Identifier h = refl
word_ends_not (TypeName n) h = refl
word_ends_not _ h = absurd (true≢false (sym h))

pub no_name_next : {A : Type 0} → (ks : List Kind) → (ds : Derivings) → (a b : ℕ) → HoldDerivings ks ds a b → ends_type (kind_at ks b) ≡ true
    → is_word (kind_at ks a) ≡ true → A
no_name_next ks No_derivings a b h e k =
    absurd (true≢false (sym e ∙ ap (λ x. ends_type (kind_at ks x)) h ∙ word_ends_not (kind_at ks a) k))
no_name_next ks (Deriving_then (Array_of o x c) ds) a b h e k = absurd (true≢false (sym k ∙ ap is_word h.1.1))
no_name_next ks (Deriving_then (Function_of o ps c) ds) a b h e k = absurd (true≢false (sym k ∙ ap is_word h.1.1))

group_not : {A : Type 0} → (ks : List Kind) → (y : Named) → (a : ℕ) → (d : Declaring) → (c : ℕ) → IsWritten d → HoldsDeclaring ks (grouped y) d (a + 1) c
    → opens_parameters (kind_at ks (a + 1)) ≡ true → A
group_not ks y a d c i h o = absurd (true≢false (sym o ∙ written_begins ks y d (a + 1) c i h))

-- a name or a group behind pointers that are the same
pub moved : (ks : List Kind) → (y n : Named) → (ps ps' : List (ℕ × List ℕ)) → (m m' k : ℕ) → (g : Grouping) → n ≡ behind_pointers y ps → ps ≡ ps'
    → m ≡ m' → HoldsGrouping ks (behind_pointers y ps') g m' k → HoldsGrouping ks n g m k
moved ks y n ps ps' m m' k g is e f h =
    subst
    (λ x. HoldsGrouping ks x g m k)
    (ap (λ x. behind_pointers y x) (sym e) ∙ sym is)
    (subst (λ x. HoldsGrouping ks (behind_pointers y ps') g x k) (sym f) h)

mutual
  pub declaring_only : (ks : List Kind) → (y : Named) → (d : Declaring) → (a b : ℕ) → From ks a → HoldsDeclaring ks y d a b → ends_type (kind_at ks b) ≡ true
      → (d' : Declaring) → (b' : ℕ) → HoldsDeclaring ks y d' a b' → ends_type (kind_at ks b') ≡ true → (d ≡ d') × (b ≡ b')
  declaring_only ks y (Declaring_of ps g ds) a b w h e (Declaring_of ps' g' ds') b' h' e' =
      let begun = grouping_begins ks (behind_pointers y ps) g ds h.0 h.1 b h.3 h.4 e in
      let begun' = grouping_begins ks (behind_pointers y ps') g' ds' h'.0 h'.1 b' h'.3 h'.4 e' in
      let one =
      pointers_only
      ks
      ps
      a
      h.0
      h.2
      (no_star ks h.0 begun)
      (no_qualifier ks h.0 begun)
      ps'
      h'.0
      h'.2
      (no_star ks h'.0 begun')
      (no_qualifier ks h'.0 begun') in
      let w' = later ks a h.0 (pointers_forth ks ps a h.0 h.2) w in
      let two =
      grouping_only
      ks
      (behind_pointers y ps)
      g
      h.0
      h.1
      ds
      b
      w'
      h.3
      h.4
      h.5
      e
      g'
      h'.1
      ds'
      b'
      (moved ks y (behind_pointers y ps) ps ps' h.0 h'.0 h'.1 g' refl one.0 one.1 h'.3)
      h'.4
      h'.5
      e' in
      let three =
      derivings_only
      ks
      ds
      h.1
      b
      (later ks h.0 h.1 (grouping_forth ks (behind_pointers y ps) g h.0 h.1 h.3) w')
      h.4
      e
      ds'
      b'
      (subst (λ x. HoldDerivings ks ds' x b') (sym two.1) h'.4)
      e' in (
        ap (λ x. Declaring_of x g ds) one.0
            ∙ ap (λ x. Declaring_of ps' x ds) two.0
            ∙ ap (λ x. Declaring_of ps' g' x) three.0,
        three.1,
      )

  pub grouping_only : (ks : List Kind) → (y : Named) → (g : Grouping) → (a m : ℕ) → (ds : Derivings) → (b : ℕ) → From ks a → HoldsGrouping ks y g a m
      → HoldDerivings ks ds m b → MayDerive g ds → ends_type (kind_at ks b) ≡ true
      → (g' : Grouping) → (m' : ℕ) → (ds' : Derivings) → (b' : ℕ) → HoldsGrouping ks y g' a m' → HoldDerivings ks ds' m' b' → MayDerive g' ds'
      → ends_type (kind_at ks b') ≡ true → (g ≡ g') × (m ≡ m')
  grouping_only ks y No_group a m ds b w h i q e No_group m' ds' b' h' i' q' e' = (refl, h ∙ sym h')
  grouping_only ks y No_group a m ds b w h i q e (Named_of n) m' ds' b' h' i' q' e' =
      no_name_next ks ds a b (subst (λ x. HoldDerivings ks ds x b) h i) e (named_word y (kind_at ks a) h'.1)
  grouping_only ks y No_group a m ds b w h i q e (Group_of o d c) m' ds' b' h' i' q' e' =
      group_not ks y a d c h'.2 h'.3 (parameters_next ks ds a b (subst (λ x. HoldDerivings ks ds x b) h i) q e h'.1)
  grouping_only ks y (Named_of n) a m ds b w h i q e No_group m' ds' b' h' i' q' e' =
      no_name_next ks ds' a b' (subst (λ x. HoldDerivings ks ds' x b') h' i') e' (named_word y (kind_at ks a) h.1)
  grouping_only ks y (Named_of n) a m ds b w h i q e (Named_of n') m' ds' b' h' i' q' e' = (ap Named_of (h.0 ∙ sym h'.0), h.2 ∙ sym h'.2)
  grouping_only ks y (Named_of n) a m ds b w h i q e (Group_of o d c) m' ds' b' h' i' q' e' =
      absurd (true≢false (sym (named_word y (kind_at ks a) h.1) ∙ ap is_word h'.1))
  grouping_only ks y (Group_of o d c) a m ds b w h i q e No_group m' ds' b' h' i' q' e' =
      group_not ks y a d c h.2 h.3 (parameters_next ks ds' a b' (subst (λ x. HoldDerivings ks ds' x b') h' i') q' e' h.1)
  grouping_only ks y (Group_of o d c) a m ds b w h i q e (Named_of n) m' ds' b' h' i' q' e' =
      absurd (true≢false (sym (named_word y (kind_at ks a) h'.1) ∙ ap is_word h.1))
  grouping_only ks y (Group_of o d c) a m ds b w h i q e (Group_of o' d' c') m' ds' b' h' i' q' e' =
      let same = declaring_only ks (grouped y) d (a + 1) c (next ks a w) h.3 (ap ends_type h.4) d' c' h'.3 (ap ends_type h'.4) in (
        ap (λ x. Group_of x d c) (h.0 ∙ sym h'.0) ∙ ap (λ x. Group_of o' x c) same.0 ∙ ap (λ x. Group_of o' d' x) same.1,
        h.5 ∙ ap (λ x. x + 1) same.1 ∙ sym h'.5,
      )
