-- What is the only one of its kind that holds from a place on, where its parts are the only ones.
use Rattle.std.proofs.Common.{◌≡◌, refl, ap, sym, ◌∙◌, subst, ℕ, zero, suc, ◌+◌, ◌-◌, ◌<◌, ◌≤◌, List, [], ◌∷◌, arith, inl, inr, true, true≢false, false}
use Rattle.tree_data.specs.Trees.{Naming, Tree, Name_of, Constant_of, Text_of, Paren_of, Postfix_of, Unary_of, Binary_of, Conditional_of, Assign_of, Of_type, Compound_of, Behind, Operand_of, Index_of, Call_of, Call_with_of, Member_of, Step_of, Behinds, None_behind, Behind_then, Front, Operator_of, Cast_of, Choice_of, Left_of, Fronts, None_before, Front_then, Braces, Generic_of, Offset_of, Associations, No_associations, Association_then}
use Rattle.c_parser.specs.declared.kinds.Kind.{Kind}
use Rattle.c_parser.specs.declared.kinds.Kind.TheVariants.{Identifier, Constant, Text, OpenParen, CloseParen, OpenBracket, CloseBracket, Step, Question, Colon, Comma, Generic, OffsetOf}
use Rattle.c_parser.specs.Joining.{followed, preceded}
use Rattle.c_parser.specs.Kinds.{kind_at, level_at, is_size, ends_type, is_prefix, is_member}
use Rattle.c_parser.specs.Levels.{IsBinary, behinds_level, fronts_level, rank}
use Rattle.c_parser.specs.Reading.{HoldTexts, Holds, HoldsBehind, HoldBehinds, HoldsFront, HoldFronts, Reads, Stops, HoldBraces, HoldAssociations, HoldsType}
use Rattle.c_parser.proofs.Marks.{clash, leveled, level_most, stops_at, is_start, no_type}
use Rattle.c_parser.proofs.Views.{lowered, looser, loosely, begins, parted, fronts_high, Following, Preceding, Primary, a_name, a_constant, a_text, a_paren, a_size, postfix_view, binary_view, unary_view, conditional_view, assign_view, starts, first_postfix, first_unary, begins_cast, index_view, Calling, no_arguments, arguments, call_view, member_view, step_view, operand_view, Prefixing, an_operator, a_cast, prefix_view, cast_here, choice_view, left_view, a_compound, opened_prefix, a_generic, an_offset, Goes, size_clashes}
use Rattle.c_parser.proofs.Typed.{Typed, From, next, typed_next, typed_second}
use Rattle.c_parser.proofs.Types.{type_starts}
use native.Mathlib.Decide.{dec_lt}

-- each tree of this level that holds from a is this one
abbrev pub Only : List Kind → ℕ → ℕ → Tree → ℕ → Type 0
Only ks n a t b = (t' : Tree) → (b' : ℕ) → Reads ks n t' a b' → Stops ks n b' → (t ≡ t') × (b ≡ b')

abbrev pub OnlyBehinds : List Kind → ℕ → ℕ → Behinds → ℕ → Type 0
OnlyBehinds ks l a xs b = (xs' : Behinds) → (b' : ℕ) → HoldBehinds ks l xs' a b' → Stops ks l b' → (xs ≡ xs') × (b ≡ b')

abbrev pub OnlyBehind : List Kind → ℕ → ℕ → Behind → ℕ → Type 0
OnlyBehind ks l a x b = (x' : Behind) → (b' : ℕ) → HoldsBehind ks l x' a b' → Stops ks (l + 1) b' → (x ≡ x') × (b ≡ b')

abbrev pub OnlyFronts : List Kind → ℕ → ℕ → Fronts → Tree → ℕ → Type 0
OnlyFronts ks l a xs t b =
    (xs' : Fronts) → (m' : ℕ) → (t' : Tree) → (b' : ℕ) → HoldFronts ks l xs' a m' → Reads ks (l + 1) t' m' b' → Stops ks l b'
    → (xs ≡ xs') × (t ≡ t') × (b ≡ b')

pub any_stop : (ks : List Kind) → (b : ℕ) → Stops ks 17 b
any_stop ks b = level_most (kind_at ks b)

-- primary expressions
pub texts_only : (ks : List Kind) → (ns : List ℕ) → (a b : ℕ) → HoldTexts ks ns a b
    → (ns' : List ℕ) → (b' : ℕ) → HoldTexts ks ns' a b' → (ns ≡ ns') × (b ≡ b')
texts_only ks [] a b h [] b' h' = (refl, h.0 ∙ sym h'.0)
texts_only ks [] a b h (n ∷ ns) b' h' = absurd (h.1 h'.1)
texts_only ks (n ∷ ns) a b h [] b' h' = absurd (h'.1 h.1)
texts_only ks (n ∷ ns) a b h (n' ∷ ns') b' h' =
    let more = texts_only ks ns (a + 1) b h.2 ns' b' h'.2 in
    (ap (λ x. x ∷ ns) (h.0 ∙ sym h'.0) ∙ ap (λ xs. n' ∷ xs) more.0, more.1)

pub same_name : (ks : List Kind) → (t : Tree) → (a b : ℕ) → t ≡ Name_of a → kind_at ks a ≡ Identifier → b ≡ a + 1
    → (t' : Tree) → (b' : ℕ) → Primary ks t' a b' → (t ≡ t') × (b ≡ b')
same_name ks t a b e k f t' b' (a_name e' k' f') = (e ∙ sym e', f ∙ sym f')
same_name ks t a b e k f t' b' (a_constant e' k' f') = clash (kind_at ks a) Identifier Constant k k' (λ x. omega (arith, x))
same_name ks t a b e k f t' b' (a_text ns e' k' f') = clash (kind_at ks a) Identifier Text k k' (λ x. omega (arith, x))
same_name ks t a b e k f t' b' (a_paren u c e' k' r l f') = clash (kind_at ks a) Identifier OpenParen k k' (λ x. omega (arith, x))
same_name ks t a b e k f t' b' (a_size y c e' k' o h l f' n') = absurd (true≢false (sym k' ∙ ap is_size k))
same_name ks t a b e k f t' b' (a_compound y c i e' k' h l g) = clash (kind_at ks a) Identifier OpenParen k k' (λ x. omega (arith, x))
same_name ks t a b e k f t' b' (a_generic k' v) = clash (kind_at ks a) Identifier Generic k k' (λ x. omega (arith, x))
same_name ks t a b e k f t' b' (an_offset k' v) = clash (kind_at ks a) Identifier OffsetOf k k' (λ x. omega (arith, x))

pub same_constant : (ks : List Kind) → (t : Tree) → (a b : ℕ) → t ≡ Constant_of a → kind_at ks a ≡ Constant → b ≡ a + 1
    → (t' : Tree) → (b' : ℕ) → Primary ks t' a b' → (t ≡ t') × (b ≡ b')
same_constant ks t a b e k f t' b' (a_name e' k' f') = clash (kind_at ks a) Constant Identifier k k' (λ x. omega (arith, x))
same_constant ks t a b e k f t' b' (a_constant e' k' f') = (e ∙ sym e', f ∙ sym f')
same_constant ks t a b e k f t' b' (a_text ns e' k' f') = clash (kind_at ks a) Constant Text k k' (λ x. omega (arith, x))
same_constant ks t a b e k f t' b' (a_paren u c e' k' r l f') = clash (kind_at ks a) Constant OpenParen k k' (λ x. omega (arith, x))
same_constant ks t a b e k f t' b' (a_size y c e' k' o h l f' n') = absurd (true≢false (sym k' ∙ ap is_size k))
same_constant ks t a b e k f t' b' (a_compound y c i e' k' h l g) = clash (kind_at ks a) Constant OpenParen k k' (λ x. omega (arith, x))
same_constant ks t a b e k f t' b' (a_generic k' v) = clash (kind_at ks a) Constant Generic k k' (λ x. omega (arith, x))
same_constant ks t a b e k f t' b' (an_offset k' v) = clash (kind_at ks a) Constant OffsetOf k k' (λ x. omega (arith, x))

pub same_text : (ks : List Kind) → (t : Tree) → (a b : ℕ) → (ns : List ℕ) → t ≡ Text_of ns → kind_at ks a ≡ Text → HoldTexts ks ns a b
    → (t' : Tree) → (b' : ℕ) → Primary ks t' a b' → (t ≡ t') × (b ≡ b')
same_text ks t a b ns e k f t' b' (a_name e' k' f') = clash (kind_at ks a) Text Identifier k k' (λ x. omega (arith, x))
same_text ks t a b ns e k f t' b' (a_constant e' k' f') = clash (kind_at ks a) Text Constant k k' (λ x. omega (arith, x))
same_text ks t a b ns e k f t' b' (a_text ns' e' k' f') =
    let same = texts_only ks ns a b f ns' b' f' in
    (e ∙ ap Text_of same.0 ∙ sym e', same.1)
same_text ks t a b ns e k f t' b' (a_paren u c e' k' r l f') = clash (kind_at ks a) Text OpenParen k k' (λ x. omega (arith, x))
same_text ks t a b ns e k f t' b' (a_size y c e' k' o h l f' n') = absurd (true≢false (sym k' ∙ ap is_size k))
same_text ks t a b ns e k f t' b' (a_compound y c i e' k' h l g) = clash (kind_at ks a) Text OpenParen k k' (λ x. omega (arith, x))
same_text ks t a b ns e k f t' b' (a_generic k' v) = clash (kind_at ks a) Text Generic k k' (λ x. omega (arith, x))
same_text ks t a b ns e k f t' b' (an_offset k' v) = clash (kind_at ks a) Text OffsetOf k k' (λ x. omega (arith, x))

pub closed : (ks : List Kind) → (c : ℕ) → kind_at ks c ≡ CloseParen → Stops ks 1 c
closed ks c e = stops_at ks 1 c CloseParen e (omega arith)

pub same_paren : (ks : List Kind) → (a : ℕ) → (u : Tree) → (c : ℕ) → kind_at ks a ≡ OpenParen → is_start (kind_at ks (a + 1)) ≡ true → Only ks 1 (a + 1) u c
    → (t' : Tree) → (b' : ℕ) → Primary ks t' a b' → (Paren_of a u c ≡ t') × (c + 1 ≡ b')
same_paren ks a u c k begun only t' b' (a_name e' k' f') = clash (kind_at ks a) OpenParen Identifier k k' (λ x. omega (arith, x))
same_paren ks a u c k begun only t' b' (a_constant e' k' f') = clash (kind_at ks a) OpenParen Constant k k' (λ x. omega (arith, x))
same_paren ks a u c k begun only t' b' (a_text ns e' k' f') = clash (kind_at ks a) OpenParen Text k k' (λ x. omega (arith, x))
same_paren ks a u c k begun only t' b' (a_generic k' v) = clash (kind_at ks a) OpenParen Generic k k' (λ x. omega (arith, x))
same_paren ks a u c k begun only t' b' (an_offset k' v) = clash (kind_at ks a) OpenParen OffsetOf k k' (λ x. omega (arith, x))
same_paren ks a u c k begun only t' b' (a_size y d e' k' o h l f' n') = absurd (true≢false (sym k' ∙ ap is_size k))
same_paren ks a u c k begun only t' b' (a_compound y d i e' k' h l g) =
    absurd (true≢false (sym (type_starts ks y (a + 1) d h) ∙ no_type (kind_at ks (a + 1)) begun))
same_paren ks a u c k begun only t' b' (a_paren u' c' e' k' r l f') =
    let same = only u' c' r (closed ks c' l) in
    (ap (λ x. Paren_of a x c) same.0 ∙ ap (λ x. Paren_of a u' x) same.1 ∙ sym e', ap (λ x. x + 1) same.1 ∙ sym f')

pub same_size : (ks : List Kind) → (t : Tree) → (a b : ℕ) → Typed ks (a + 2) → (y : Naming) → (c : ℕ) → t ≡ Of_type a (a + 1) y c → is_size (kind_at ks a) ≡ true
    → HoldsType ks y (a + 2) c → kind_at ks c ≡ CloseParen → b ≡ c + 1
    → (t' : Tree) → (b' : ℕ) → Primary ks t' a b' → (t ≡ t') × (b ≡ b')
same_size ks t a b w y c e k h l f t' b' (a_name e' k' f') = absurd (true≢false (sym k ∙ ap is_size k'))
same_size ks t a b w y c e k h l f t' b' (a_constant e' k' f') = absurd (true≢false (sym k ∙ ap is_size k'))
same_size ks t a b w y c e k h l f t' b' (a_text ns e' k' f') = absurd (true≢false (sym k ∙ ap is_size k'))
same_size ks t a b w y c e k h l f t' b' (a_generic k' v) = absurd (true≢false (sym k ∙ ap is_size k'))
same_size ks t a b w y c e k h l f t' b' (an_offset k' v) = absurd (true≢false (sym k ∙ ap is_size k'))
same_size ks t a b w y c e k h l f t' b' (a_paren u d e' k' r l' f') = absurd (true≢false (sym k ∙ ap is_size k'))
same_size ks t a b w y c e k h l f t' b' (a_compound y' c' i' e' k' h' l' g') = absurd (true≢false (sym k ∙ ap is_size k'))
same_size ks t a b w y c e k h l f t' b' (a_size y' c' e' k' o h' l' f' n') =
    let same = w false y c h (ap ends_type l) y' c' h' (ap ends_type l') in (
      e ∙ ap (λ x. Of_type a (a + 1) x c) same.0 ∙ ap (λ x. Of_type a (a + 1) y' x) same.1 ∙ sym e',
      f ∙ ap (λ x. x + 1) same.1 ∙ sym f',
    )

abbrev pub OnlyBraces : List Kind → ℕ → Braces → ℕ → Type 0
OnlyBraces ks a x b = (x' : Braces) → (b' : ℕ) → HoldBraces ks x' a b' → (x ≡ x') × (b ≡ b')

pub same_compound : (ks : List Kind) → (a : ℕ) → Typed ks (a + 1) → (y : Naming) → (c : ℕ) → (i : Braces) → (b : ℕ) → kind_at ks a ≡ OpenParen
    → HoldsType ks y (a + 1) c → kind_at ks c ≡ CloseParen → OnlyBraces ks (c + 1) i b
    → (t' : Tree) → (b' : ℕ) → Primary ks t' a b' → (Compound_of a y c i ≡ t') × (b ≡ b')
same_compound ks a w y c i b k h l only t' b' (a_name e' k' f') = clash (kind_at ks a) OpenParen Identifier k k' (λ x. omega (arith, x))
same_compound ks a w y c i b k h l only t' b' (a_constant e' k' f') = clash (kind_at ks a) OpenParen Constant k k' (λ x. omega (arith, x))
same_compound ks a w y c i b k h l only t' b' (a_text ns e' k' f') = clash (kind_at ks a) OpenParen Text k k' (λ x. omega (arith, x))
same_compound ks a w y c i b k h l only t' b' (a_generic k' v) = clash (kind_at ks a) OpenParen Generic k k' (λ x. omega (arith, x))
same_compound ks a w y c i b k h l only t' b' (an_offset k' v) = clash (kind_at ks a) OpenParen OffsetOf k k' (λ x. omega (arith, x))
same_compound ks a w y c i b k h l only t' b' (a_size y' d e' k' o h' l' f' n') = absurd (true≢false (sym k' ∙ ap is_size k))
same_compound ks a w y c i b k h l only t' b' (a_paren u d e' k' r l' f') =
    absurd (true≢false (sym (type_starts ks y (a + 1) c h) ∙ no_type (kind_at ks (a + 1)) (starts ks u (a + 1) d r.1)))
same_compound ks a w y c i b k h l only t' b' (a_compound y' c' i' e' k' h' l' g') =
    let same = w false y c h (ap ends_type l) y' c' h' (ap ends_type l') in
    let more = only i' b' (subst (λ x. HoldBraces ks i' (x + 1) b') (sym same.1) g') in (
      ap (λ x. Compound_of a x c i) same.0
          ∙ ap (λ x. Compound_of a y' x i) same.1
          ∙ ap (λ x. Compound_of a y' c' x) more.0
          ∙ sym e',
      more.1,
    )

abbrev pub OnlyAssociations : List Kind → ℕ → Associations → ℕ → Type 0
OnlyAssociations ks a xs b =
    (xs' : Associations) → (b' : ℕ) → HoldAssociations ks xs' a b' → kind_at ks b' ≡ CloseParen → (xs ≡ xs') × (b ≡ b')

-- where an association stands there is its comma, and behind the last one the `)`
pub associations_begin : (ks : List Kind) → (xs : Associations) → (a b : ℕ) → HoldAssociations ks xs a b → kind_at ks b ≡ CloseParen → Stops ks 2 a
associations_begin ks No_associations a b h l = stops_at ks 2 a CloseParen (ap (λ x. kind_at ks x) (sym h) ∙ l) (omega arith)
associations_begin ks (Association_then o x xs) a b h l = stops_at ks 2 a Comma h.2 (omega arith)

pub same_generic : (ks : List Kind) → (a : ℕ) → (u : Tree) → (m : ℕ) → (gs : Associations) → (c : ℕ) → kind_at ks a ≡ Generic
    → Only ks 2 (a + 2) u m → OnlyAssociations ks m gs c
    → (t' : Tree) → (b' : ℕ) → Primary ks t' a b' → (Generic_of a (a + 1) u gs c ≡ t') × (c + 1 ≡ b')
same_generic ks a u m gs c k one more t' b' (a_name e' k' f') = clash (kind_at ks a) Generic Identifier k k' (λ x. omega (arith, x))
same_generic ks a u m gs c k one more t' b' (a_constant e' k' f') = clash (kind_at ks a) Generic Constant k k' (λ x. omega (arith, x))
same_generic ks a u m gs c k one more t' b' (a_text ns e' k' f') = clash (kind_at ks a) Generic Text k k' (λ x. omega (arith, x))
same_generic ks a u m gs c k one more t' b' (a_paren v d e' k' r l f') = clash (kind_at ks a) Generic OpenParen k k' (λ x. omega (arith, x))
same_generic ks a u m gs c k one more t' b' (a_size y d e' k' o h l f' n') = absurd (true≢false (sym k' ∙ ap is_size k))
same_generic ks a u m gs c k one more t' b' (a_compound y d i e' k' h l g) = clash (kind_at ks a) Generic OpenParen k k' (λ x. omega (arith, x))
same_generic ks a u m gs c k one more t' b' (an_offset k' v) = clash (kind_at ks a) Generic OffsetOf k k' (λ x. omega (arith, x))
same_generic ks a u m gs c k one more t' b' (a_generic k' v) =
    let first = one v.control v.behind v.reads (associations_begin ks v.choices v.behind v.closing v.holds v.closes) in
    let rest = more v.choices v.closing (subst (λ x. HoldAssociations ks v.choices x v.closing) (sym first.1) v.holds) v.closes in (
      ap (λ x. Generic_of a (a + 1) x gs c) first.0
          ∙ ap (λ x. Generic_of a (a + 1) v.control x c) rest.0
          ∙ ap (λ x. Generic_of a (a + 1) v.control v.choices x) rest.1
          ∙ sym v.is,
      ap (λ x. x + 1) rest.1 ∙ sym v.ends,
    )

pub same_offset : (ks : List Kind) → (a : ℕ) → Typed ks (a + 2) → (y : Naming) → (m : ℕ) → (bs : Behinds) → (c : ℕ) → kind_at ks a ≡ OffsetOf
    → HoldsType ks y (a + 2) m → kind_at ks m ≡ Comma → OnlyBehinds ks 16 (m + 2) bs c
    → (t' : Tree) → (b' : ℕ) → Primary ks t' a b' → (Offset_of a (a + 1) y m (m + 1) bs c ≡ t') × (c + 1 ≡ b')
same_offset ks a w y m bs c k h p only t' b' (a_name e' k' f') = clash (kind_at ks a) OffsetOf Identifier k k' (λ x. omega (arith, x))
same_offset ks a w y m bs c k h p only t' b' (a_constant e' k' f') = clash (kind_at ks a) OffsetOf Constant k k' (λ x. omega (arith, x))
same_offset ks a w y m bs c k h p only t' b' (a_text ns e' k' f') = clash (kind_at ks a) OffsetOf Text k k' (λ x. omega (arith, x))
same_offset ks a w y m bs c k h p only t' b' (a_paren v d e' k' r l f') = clash (kind_at ks a) OffsetOf OpenParen k k' (λ x. omega (arith, x))
same_offset ks a w y m bs c k h p only t' b' (a_size z d e' k' o g l f' n') = absurd (true≢false (sym k' ∙ ap is_size k))
same_offset ks a w y m bs c k h p only t' b' (a_compound z d i e' k' g l q) = clash (kind_at ks a) OffsetOf OpenParen k k' (λ x. omega (arith, x))
same_offset ks a w y m bs c k h p only t' b' (a_generic k' v) = clash (kind_at ks a) OffsetOf Generic k k' (λ x. omega (arith, x))
same_offset ks a w y m bs c k h p only t' b' (an_offset k' v) =
    let first = w false y m h (ap ends_type p) v.name v.comma v.holds (ap ends_type v.parts) in
    let rest =
    only
    v.steps
    v.closing
    (subst (λ x. HoldBehinds ks 16 v.steps (x + 2) v.closing) (sym first.1) v.goes)
    (stops_at ks 16 v.closing CloseParen v.closes (omega arith)) in (
      ap (λ x. Offset_of a (a + 1) x m (m + 1) bs c) first.0
          ∙ ap (λ x. Offset_of a (a + 1) v.name x (x + 1) bs c) first.1
          ∙ ap (λ x. Offset_of a (a + 1) v.name v.comma (v.comma + 1) x c) rest.0
          ∙ ap (λ x. Offset_of a (a + 1) v.name v.comma (v.comma + 1) v.steps x) rest.1
          ∙ sym v.is,
      ap (λ x. x + 1) rest.1 ∙ sym v.ends,
    )

-- a level from the next one
pub following_only : (ks : List Kind) → (l a : ℕ) → (make : Tree → Behinds → Tree)
    → ((t : Tree) → (b : ℕ) → Reads ks l t a b → Following ks l make t a b)
    → (f : Tree) → (m : ℕ) → (xs : Behinds) → (b : ℕ) → Only ks (l + 1) a f m → OnlyBehinds ks l m xs b
    → Only ks l a (followed make f xs) b
following_only ks l a make view f m xs b x y t' b' h s =
    let v = view t' b' h in
    let front = x v.first v.behind v.reads (loosely ks l v.more v.behind b' v.goes s) in
    let back = y v.more b' (subst (λ k. HoldBehinds ks l v.more k b') (sym front.1) v.goes) s in
    (ap (λ k. followed make k xs) front.0 ∙ ap (λ k. followed make v.first k) back.0 ∙ sym v.is, back.1)

pub preceding_only : (ks : List Kind) → (n l a : ℕ) → n ≤ l → (make : Fronts → Tree → Tree)
    → ((t : Tree) → (b : ℕ) → Reads ks n t a b → Preceding ks l make t a b)
    → (xs : Fronts) → (t : Tree) → (b : ℕ) → OnlyFronts ks l a xs t b → Only ks n a (preceded make xs t) b
preceding_only ks n l a le make view xs t b x t' b' h s =
    let v = view t' b' h in
    let same = x v.before v.behind v.last b' v.goes v.reads (looser ks n l b' le s) in
    (ap (λ k. preceded make k t) same.0 ∙ ap (λ k. preceded make v.before k) same.1 ∙ sym v.is, same.2)

pub none_behind : (ks : List Kind) → (l b : ℕ) → Stops ks l b → OnlyBehinds ks l b None_behind b
none_behind ks l b s None_behind b' h s' = (refl, sym h)
none_behind ks l b s (Behind_then x xs) b' h s' =
    let low : level_at ks b < l = s in
    let same : level_at ks b ≡ l = begins ks l x b h.0 h.1 in
    absurd (omega arith)

-- the three levels at which something stands in front
pub data Fronting (l : ℕ) : Type 0 where
  by_operators : l ≡ 15 → Fronting l
  by_choices : l ≡ 3 → Fronting l
  by_places : l ≡ 2 → Fronting l

pub choice_first : {A : Type 0} → (ks : List Kind) → (a : ℕ) → (t : Tree) → (b : ℕ) → Only ks 4 a t b → Stops ks 3 b
    → (x : Front) → (m : ℕ) → HoldsFront ks 3 x a m → A
choice_first ks a t b only s x m h =
    let v = choice_view ks x a m h in
    let same = only v.test v.question v.tests (stops_at ks 4 v.question Question v.asks (omega arith)) in
    let low : level_at ks b < 3 = s in
    let e : level_at ks b ≡ 3 = ap (λ k. level_at ks k) same.1 ∙ leveled (kind_at ks v.question) Question v.asks in
    absurd (omega arith)

-- an operator of assignment stands behind a conditional expression
pub below : (ks : List Kind) → (o : ℕ) → level_at ks o ≡ 2 → Stops ks 3 o
below ks o e = omega (arith, e)

pub left_first : {A : Type 0} → (ks : List Kind) → (a : ℕ) → (t : Tree) → (b : ℕ) → Only ks 3 a t b → Stops ks 2 b
    → (x : Front) → (m : ℕ) → HoldsFront ks 2 x a m → A
left_first ks a t b only s x m h =
    let v = left_view ks x a m h in
    let same =
    only
    v.place
    v.operator
    (lowered ks 3 15 v.place a v.operator (omega arith) v.reads)
    (below ks v.operator v.assigns) in
    let low : level_at ks b < 2 = s in
    let e : level_at ks b ≡ 2 = ap (λ k. level_at ks k) same.1 ∙ v.assigns in
    absurd (omega arith)

pub prefix_first : {A : Type 0} → (ks : List Kind) → (a : ℕ) → From ks a → (t : Tree) → (b : ℕ) → Reads ks 16 t a b
    → (x : Front) → (m : ℕ) → Goes ks 15 m → Prefixing ks x a m → A
prefix_first ks a w t b h x m g (an_operator e k f) =
    size_clashes ks a (typed_second ks a w) ((first_postfix ks t a b (typed_next ks a w) h).no_operator k) k (subst (λ y. Goes ks 15 y) f g)
prefix_first ks a w t b h x m g (a_cast y c e k z i l f u) =
    absurd ((first_postfix ks t a b (typed_next ks a w) h).no_cast (cast_here ks y a c m k i l f u))

pub operator_first : {A : Type 0} → (ks : List Kind) → (a : ℕ) → From ks a → (t : Tree) → (b : ℕ) → Reads ks 16 t a b
    → (x : Front) → (m : ℕ) → Goes ks 15 m → HoldsFront ks 15 x a m → A
operator_first ks a w t b h x m g f = prefix_first ks a w t b h x m g (prefix_view ks x a m f)

-- where an expression of the next level stands, nothing stands in front
pub not_first : {A : Type 0} → (ks : List Kind) → (l a : ℕ) → From ks a → (t : Tree) → (b : ℕ) → Fronting l → Reads ks (l + 1) t a b
    → Only ks (l + 1) a t b → Stops ks l b → (x : Front) → (m : ℕ) → Goes ks l m → HoldsFront ks l x a m → A
not_first ks l a w t b (by_operators e) r only s x m g h =
    operator_first ks a w t b (subst (λ k. Reads ks (k + 1) t a b) e r) x m (subst (λ k. Goes ks k m) e g) (subst (λ k. HoldsFront ks k x a m) e h)
not_first ks l a w t b (by_choices e) r only s x m g h =
    choice_first
    ks
    a
    t
    b
    (subst (λ k. Only ks (k + 1) a t b) e only)
    (subst (λ k. Stops ks k b) e s)
    x
    m
    (subst (λ k. HoldsFront ks k x a m) e h)
not_first ks l a w t b (by_places e) r only s x m g h =
    left_first
    ks
    a
    t
    b
    (subst (λ k. Only ks (k + 1) a t b) e only)
    (subst (λ k. Stops ks k b) e s)
    x
    m
    (subst (λ k. HoldsFront ks k x a m) e h)

pub none_before : (ks : List Kind) → (l a : ℕ) → From ks a → (t : Tree) → (b : ℕ) → Fronting l → Reads ks (l + 1) t a b
    → Only ks (l + 1) a t b → Stops ks l b → OnlyFronts ks l a None_before t b
none_before ks l a w t b f r only s None_before m' t' b' h' r' s' =
    let same = only t' b' (subst (λ k. Reads ks (l + 1) t' k b') h' r') (looser ks l (l + 1) b' (omega arith) s') in
    (refl, same.0, same.1)
none_before ks l a w t b f r only s (Front_then x xs) m' t' b' h' r' s' =
    not_first
    ks
    l
    a
    w
    t
    b
    f
    r
    only
    s
    x
    h'.0
    (record { more = xs; behind = m'; last = t'; end = b'; goes = h'.2; reads = r' })
    h'.1

-- from a level to those below it
pub data Level (n : ℕ) : Type 0 where
  at_binary : IsBinary n → Level n
  at_front : Fronting n → Level n
  at_cast : n ≡ 14 → Level n
  at_postfix : n ≡ 16 → Level n

pub level_is : (n : ℕ) → 1 ≤ n → n ≤ 16 → Level n
level_is n low high =
    elim (dec_lt n 2) [
      | yes a ↦ let a' : n < 2 = a in at_binary (omega arith, omega arith, (λ e. omega (arith, e)), (λ e. omega (arith, e)))
      | no a ↦
          let a' : n < 2 → ⊥ = a in
          elim (dec_lt n 3) [
            | yes b ↦ let b' : n < 3 = b in at_front (by_places (omega arith))
            | no b ↦
                let b' : n < 3 → ⊥ = b in
                elim (dec_lt n 4) [
                  | yes c ↦ let c' : n < 4 = c in at_front (by_choices (omega arith))
                  | no c ↦
                      let c' : n < 4 → ⊥ = c in
                      elim (dec_lt n 14) [
                        | yes d ↦ let d' : n < 14 = d in at_binary (omega arith, omega arith, (λ e. omega (arith, e)), (λ e. omega (arith, e)))
                        | no d ↦
                            let d' : n < 14 → ⊥ = d in
                            elim (dec_lt n 15) [
                              | yes e ↦ let e' : n < 15 = e in at_cast (omega arith)
                              | no e ↦
                                  let e' : n < 15 → ⊥ = e in
                                  elim (dec_lt n 16) [
                                    | yes f ↦ let f' : n < 16 = f in at_front (by_operators (omega arith))
                                    | no f ↦ let f' : n < 16 → ⊥ = f in at_postfix (omega arith)
                                  ]
                            ]
                      ]
                ]
          ]
    ]

pub front_step : (ks : List Kind) → (n a : ℕ) → (t : Tree) → (b : ℕ) → Fronting n → OnlyFronts ks n a None_before t b → Only ks n a t b
front_step ks n a t b (by_operators e) h =
    subst (λ k. Only ks k a t b) (sym e)
    (preceding_only
    ks
    15
    15
    a
    (omega arith)
    Unary_of
    (λ t b h. unary_view ks t a b h)
    None_before
    t
    b
    (subst (λ k. OnlyFronts ks k a None_before t b) e h))
front_step ks n a t b (by_choices e) h =
    subst (λ k. Only ks k a t b) (sym e)
    (preceding_only
    ks
    3
    3
    a
    (omega arith)
    Conditional_of
    (λ t b h. conditional_view ks t a b h)
    None_before
    t
    b
    (subst (λ k. OnlyFronts ks k a None_before t b) e h))
front_step ks n a t b (by_places e) h =
    subst (λ k. Only ks k a t b) (sym e)
    (preceding_only
    ks
    2
    2
    a
    (omega arith)
    Assign_of
    (λ t b h. assign_view ks t a b h)
    None_before
    t
    b
    (subst (λ k. OnlyFronts ks k a None_before t b) e h))

pub postfix_step : (ks : List Kind) → (a : ℕ) → (t : Tree) → (b : ℕ) → Only ks 17 a t b → Stops ks 16 b → Only ks 16 a t b
postfix_step ks a t b only s =
    following_only ks 16 a Postfix_of (λ t b h. postfix_view ks t a b h) t b None_behind b only (none_behind ks 16 b s)

pub cast_step : (ks : List Kind) → (a : ℕ) → From ks a → (t : Tree) → (b : ℕ) → Reads ks 15 t a b → Only ks 15 a t b → Only ks 14 a t b
cast_step ks a w t b r only t' b' h s =
    elim (parted ks 14 t' a b' h) [
      | inl e ↦ absurd (first_unary ks t a b (typed_next ks a w) r (begins_cast ks t' a b' e h.1))
      | inr q ↦ only t' b' q (looser ks 14 15 b' (omega arith) s)
    ]

pub step : (ks : List Kind) → (n a : ℕ) → From ks a → (t : Tree) → (b : ℕ) → Level n → Reads ks (n + 1) t a b → Only ks (n + 1) a t b
    → Stops ks n b → Only ks n a t b
step ks n a w t b (at_binary i) r only s =
    following_only ks n a Binary_of (λ t b h. binary_view ks n i t a b h) t b None_behind b only (none_behind ks n b s)
step ks n a w t b (at_front f) r only s = front_step ks n a t b f (none_before ks n a w t b f r only s)
step ks n a w t b (at_cast e) r only s =
    subst (λ k. Only ks k a t b) (sym e) (cast_step ks a w t b (subst (λ k. Reads ks (k + 1) t a b) e r) (subst (λ k. Only ks (k + 1) a t b) e only))
step ks n a w t b (at_postfix e) r only s =
    subst (λ k. Only ks k a t b) (sym e)
    (postfix_step ks a t b (subst (λ k. Only ks (k + 1) a t b) e only) (subst (λ k. Stops ks k b) e s))

pub down : (ks : List Kind) → (d n a : ℕ) → From ks a → (t : Tree) → (b : ℕ) → 1 ≤ n → n + d ≤ 17 → Reads ks (n + d) t a b
    → Only ks (n + d) a t b → Stops ks n b → Only ks n a t b
down ks zero n a w t b low high r only s =
    let e : n + zero ≡ n = omega arith in
    subst (λ k. Only ks k a t b) e only
down ks (suc d) n a w t b low high r only s =
    let e : n + suc d ≡ (n + 1) + d = omega arith in
    let more : (n + 1) + d ≤ 17 = omega arith in
    let high' : n ≤ 16 = omega arith in
    let r' : Reads ks ((n + 1) + d) t a b = subst (λ k. Reads ks k t a b) e r in
    let next : Only ks (n + 1) a t b =
    down ks d (n + 1) a w t b (omega arith) more r' (subst (λ k. Only ks k a t b) e only) (looser ks n (n + 1) b (omega arith) s) in
    step
    ks
    n
    a
    w
    t
    b
    (level_is n low high')
    (lowered ks (n + 1) ((n + 1) + d) t a b (omega arith) r')
    next
    s

pub lower : (ks : List Kind) → (m n a : ℕ) → From ks a → (t : Tree) → (b : ℕ) → 1 ≤ n → n ≤ m → m ≤ 17 → Reads ks m t a b → Only ks m a t b
    → Stops ks n b → Only ks n a t b
lower ks m n a w t b low le high r only s =
    let e : m ≡ n + (m - n) = omega arith in
    down
    ks
    (m - n)
    n
    a
    w
    t
    b
    low
    (omega arith)
    (subst (λ k. Reads ks k t a b) e r)
    (subst (λ k. Only ks k a t b) e only)
    s

pub rank_most : (ks : List Kind) → (t : Tree) → (a b : ℕ) → Holds ks t a b → rank ks t ≤ 17
rank_most ks (Name_of n) a b h = omega arith
rank_most ks (Constant_of n) a b h = omega arith
rank_most ks (Text_of ns) a b h = omega arith
rank_most ks (Paren_of o t c) a b h = omega arith
rank_most ks (Postfix_of f bs) a b h = omega arith
rank_most ks (Unary_of fs t) a b h =
    let most : fronts_level fs ≤ 15 = fronts_high fs in
    omega arith
rank_most ks (Of_type k o y c) a b h = omega arith
rank_most ks (Compound_of o y c i) a b h = omega arith
rank_most ks (Generic_of k o u gs c) a b h = omega arith
rank_most ks (Offset_of k o y m n bs c) a b h = omega arith
rank_most ks (Binary_of f bs) a b h =
    let most : behinds_level ks bs ≤ 13 = h.2.1 in
    omega arith
rank_most ks (Conditional_of fs t) a b h = omega arith
rank_most ks (Assign_of fs t) a b h = omega arith

-- the only one of its own level is the only one of each level that has it
pub placed : (ks : List Kind) → (n : ℕ) → (t : Tree) → (a b : ℕ) → From ks a → 1 ≤ n → Reads ks n t a b → Stops ks n b
    → Only ks (rank ks t) a t b → Only ks n a t b
placed ks n t a b w low h s only =
    let own : rank ks t ≤ rank ks t = omega arith in
    lower ks (rank ks t) n a w t b low h.0 (rank_most ks t a b h.1) (own, h.1) only s

-- what stands in front, and no expression of the next level where such a one stands behind it
pub record OnlyFront (ks : List Kind) (l a : ℕ) (x : Front) (m : ℕ) : Type 0 where
  pub same : (x' : Front) → (m' : ℕ) → HoldsFront ks l x' a m' → (x ≡ x') × (m ≡ m')
  pub not_next : Goes ks l m → (t : Tree) → (b : ℕ) → Reads ks (l + 1) t a b → Stops ks l b → ⊥

pub same_operator : (ks : List Kind) → (o a m : ℕ) → o ≡ a → is_prefix (kind_at ks a) ≡ true → m ≡ a + 1
    → (x' : Front) → (m' : ℕ) → Prefixing ks x' a m' → (Operator_of o ≡ x') × (m ≡ m')
same_operator ks o a m e k f x' m' (an_operator e' k' f') = (ap Operator_of e ∙ sym e', f ∙ sym f')
same_operator ks o a m e k f x' m' (a_cast y c e' k' z h l f' u) = opened_prefix ks a k k'

pub operator_only : (ks : List Kind) → (o a m : ℕ) → From ks a → HoldsFront ks 15 (Operator_of o) a m → OnlyFront ks 15 a (Operator_of o) m
operator_only ks o a m w h = record {
  same = λ x' m' h'. same_operator ks o a m h.1 h.2 h.3 x' m' (prefix_view ks x' a m' h');
  not_next = λ g t b r s. operator_first ks a w t b r (Operator_of o) m g h;
}

pub same_cast : (ks : List Kind) → (o : ℕ) → (y : Naming) → (c a m : ℕ) → Typed ks (a + 1) → o ≡ a → kind_at ks a ≡ OpenParen → HoldsType ks y (a + 1) c
    → kind_at ks c ≡ CloseParen → m ≡ c + 1
    → (x' : Front) → (m' : ℕ) → Prefixing ks x' a m' → (Cast_of o y c ≡ x') × (m ≡ m')
same_cast ks o y c a m w e k h l f x' m' (an_operator e' k' f') = opened_prefix ks a k' k
same_cast ks o y c a m w e k h l f x' m' (a_cast y' c' e' k' z h' l' f' u') =
    let same = w false y c h (ap ends_type l) y' c' h' (ap ends_type l') in (
      ap (λ x. Cast_of x y c) e ∙ ap (λ x. Cast_of a x c) same.0 ∙ ap (λ x. Cast_of a y' x) same.1 ∙ sym e',
      f ∙ ap (λ x. x + 1) same.1 ∙ sym f',
    )

pub cast_only : (ks : List Kind) → (o : ℕ) → (y : Naming) → (c a m : ℕ) → From ks a → HoldsFront ks 15 (Cast_of o y c) a m → OnlyFront ks 15 a (Cast_of o y c) m
cast_only ks o y c a m w h = record {
  same = λ x' m' h'. same_cast ks o y c a m (typed_next ks a w) h.1 h.2 h.4 h.5 h.6 x' m' (prefix_view ks x' a m' h');
  not_next = λ g t b r s. operator_first ks a w t b r (Cast_of o y c) m g h;
}

pub choice_only : (ks : List Kind) → (t : Tree) → (q : ℕ) → (e : Tree) → (c a m : ℕ) → HoldsFront ks 3 (Choice_of t q e c) a m
    → Only ks 4 a t q → Only ks 1 (q + 1) e c → OnlyFront ks 3 a (Choice_of t q e c) m
choice_only ks t q e c a m h x y = record {
  same = λ x' m' h'.
      let v = choice_view ks x' a m' h' in
      let one = x v.test v.question v.tests (stops_at ks 4 v.question Question v.asks (omega arith)) in
      let two =
      y
      v.middle
      v.colon
      (subst (λ k. Reads ks 1 v.middle (k + 1) v.colon) (sym one.1) v.reads)
      (stops_at ks 1 v.colon Colon v.parts (omega arith)) in (
        ap (λ k. Choice_of k q e c) one.0
            ∙ ap (λ k. Choice_of v.test k e c) one.1
            ∙ ap (λ k. Choice_of v.test v.question k c) two.0
            ∙ ap (λ k. Choice_of v.test v.question v.middle k) two.1
            ∙ sym v.is,
        h.7 ∙ ap (λ k. k + 1) two.1 ∙ sym v.ends,
      );
  not_next = λ g u b r s.
      let one = x u b r (looser ks 3 4 b (omega arith) s) in
      let low : level_at ks b < 3 = s in
      let same : level_at ks b ≡ 3 = ap (λ k. level_at ks k) (sym one.1) ∙ leveled (kind_at ks q) Question h.3 in
      absurd (omega arith);
}

pub left_only : (ks : List Kind) → (t : Tree) → (o a m : ℕ) → HoldsFront ks 2 (Left_of t o) a m → Only ks 3 a t o
    → OnlyFront ks 2 a (Left_of t o) m
left_only ks t o a m h x = record {
  same = λ x' m' h'.
      let v = left_view ks x' a m' h' in
      let one =
      x
      v.place
      v.operator
      (lowered ks 3 15 v.place a v.operator (omega arith) v.reads)
      (below ks v.operator v.assigns) in (
        ap (λ k. Left_of k o) one.0 ∙ ap (λ k. Left_of v.place k) one.1 ∙ sym v.is,
        h.4 ∙ ap (λ k. k + 1) one.1 ∙ sym v.ends,
      );
  not_next = λ g u b r s.
      let one = x u b r (looser ks 2 3 b (omega arith) s) in
      let low : level_at ks b < 2 = s in
      let same : level_at ks b ≡ 2 = ap (λ k. level_at ks k) (sym one.1) ∙ h.3 in
      absurd (omega arith);
}

pub fronts_with : (ks : List Kind) → (l : ℕ) → (x : Front) → (xs : Fronts) → (a k m : ℕ) → (t : Tree) → (b : ℕ)
    → Goes ks l k → OnlyFront ks l a x k → OnlyFronts ks l k xs t b → OnlyFronts ks l a (Front_then x xs) t b
fronts_with ks l x xs a k m t b g one more None_before m' t' b' h' r' s' =
    absurd (one.not_next g t' b' (subst (λ y. Reads ks (l + 1) t' y b') h' r') s')
fronts_with ks l x xs a k m t b g one more (Front_then x' xs') m' t' b' h' r' s' =
    let first = one.same x' h'.0 h'.1 in
    let rest = more xs' m' t' b' (subst (λ y. HoldFronts ks l xs' y m') (sym first.1) h'.2) r' s' in
    (ap (λ y. Front_then y xs) first.0 ∙ ap (λ y. Front_then x' y) rest.0, rest.1, rest.2)

pub behinds_with : (ks : List Kind) → (l : ℕ) → (x : Behind) → (xs : Behinds) → (a k b : ℕ) → level_at ks a ≡ l
    → OnlyBehind ks l a x k → OnlyBehinds ks l k xs b → OnlyBehinds ks l a (Behind_then x xs) b
behinds_with ks l x xs a k b here one more None_behind b' h' s' =
    let low : level_at ks a < l = subst (λ y. level_at ks y < l) h' s' in
    absurd (omega arith)
behinds_with ks l x xs a k b here one more (Behind_then x' xs') b' h' s' =
    let first = one x' h'.0 h'.1 (loosely ks l xs' h'.0 b' h'.2 s') in
    let rest = more xs' b' (subst (λ y. HoldBehinds ks l xs' y b') (sym first.1) h'.2) s' in
    (ap (λ y. Behind_then y xs) first.0 ∙ ap (λ y. Behind_then x' y) rest.0, rest.1)

pub operand_only : (ks : List Kind) → (l o : ℕ) → (t : Tree) → (a m : ℕ) → HoldsBehind ks l (Operand_of o t) a m
    → Only ks (l + 1) (a + 1) t m → OnlyBehind ks l a (Operand_of o t) m
operand_only ks l o t a m h only x' m' h' s' =
    let v = operand_view ks l x' a m' h.0 h' in
    let same = only v.operand m' v.reads s' in
    (ap (λ y. Operand_of y t) h.1 ∙ ap (λ y. Operand_of a y) same.0 ∙ sym v.is, same.1)

pub index_closes : (ks : List Kind) → (c : ℕ) → kind_at ks c ≡ CloseBracket → Stops ks 1 c
index_closes ks c e = stops_at ks 1 c CloseBracket e (omega arith)

pub index_only : (ks : List Kind) → (t : Tree) → (c a : ℕ) → kind_at ks a ≡ OpenBracket → Only ks 1 (a + 1) t c
    → OnlyBehind ks 16 a (Index_of a t c) (c + 1)
index_only ks t c a k only x' m' h' s' =
    let v = index_view ks x' a m' k h' in
    let same = only v.inner v.closing v.reads (index_closes ks v.closing v.closes) in
    (ap (λ y. Index_of a y c) same.0 ∙ ap (λ y. Index_of a v.inner y) same.1 ∙ sym v.is, ap (λ y. y + 1) same.1 ∙ sym v.ends)

-- no expression begins with `)`
pub empty_call : {A : Type 0} → (ks : List Kind) → (t : Tree) → (a b : ℕ) → kind_at ks a ≡ CloseParen → Holds ks t a b → A
empty_call ks t a b k h = absurd (true≢false (sym (starts ks t a b h) ∙ ap is_start k))

pub same_call : (ks : List Kind) → (a : ℕ) → kind_at ks (a + 1) ≡ CloseParen
    → (x' : Behind) → (m' : ℕ) → Calling ks x' a m' → (Call_of a (a + 1) ≡ x') × (a + 2 ≡ m')
same_call ks a k x' m' (no_arguments e k' f) = (sym e, sym f)
same_call ks a k x' m' (arguments t m bs c e r h k' f) = empty_call ks t (a + 1) m k r.1

pub call_only : (ks : List Kind) → (a : ℕ) → kind_at ks a ≡ OpenParen → kind_at ks (a + 1) ≡ CloseParen
    → OnlyBehind ks 16 a (Call_of a (a + 1)) (a + 2)
call_only ks a k l x' m' h' s' = same_call ks a l x' m' (call_view ks x' a m' k h')

pub same_arguments : (ks : List Kind) → (a : ℕ) → (t : Tree) → (m : ℕ) → (bs : Behinds) → (c : ℕ) → Holds ks t (a + 1) m
    → Only ks 2 (a + 1) t m → OnlyBehinds ks 1 m bs c
    → (x' : Behind) → (m' : ℕ) → Calling ks x' a m' → (Call_with_of a t bs c ≡ x') × (c + 1 ≡ m')
same_arguments ks a t m bs c h x y x' m' (no_arguments e k' f) = empty_call ks t (a + 1) m k' h
same_arguments ks a t m bs c h x y x' m' (arguments t' n bs' c' e r g k' f) =
    let one = x t' n r (loosely ks 1 bs' n c' g (closed ks c' k')) in
    let two = y bs' c' (subst (λ k. HoldBehinds ks 1 bs' k c') (sym one.1) g) (closed ks c' k') in (
      ap (λ k. Call_with_of a k bs c) one.0
          ∙ ap (λ k. Call_with_of a t' k c) two.0
          ∙ ap (λ k. Call_with_of a t' bs' k) two.1
          ∙ sym e,
      ap (λ k. k + 1) two.1 ∙ sym f,
    )

pub call_with_only : (ks : List Kind) → (a : ℕ) → kind_at ks a ≡ OpenParen → (t : Tree) → (m : ℕ) → (bs : Behinds) → (c : ℕ)
    → Holds ks t (a + 1) m → Only ks 2 (a + 1) t m → OnlyBehinds ks 1 m bs c
    → OnlyBehind ks 16 a (Call_with_of a t bs c) (c + 1)
call_with_only ks a k t m bs c h x y x' m' h' s' =
    same_arguments ks a t m bs c h x y x' m' (call_view ks x' a m' k h')

pub member_only : (ks : List Kind) → (a : ℕ) → is_member (kind_at ks a) ≡ true → OnlyBehind ks 16 a (Member_of a (a + 1)) (a + 2)
member_only ks a k x' m' h' s' =
    let v = member_view ks x' a m' k h' in
    (sym v.is, sym v.ends)

pub step_only : (ks : List Kind) → (a : ℕ) → kind_at ks a ≡ Step → OnlyBehind ks 16 a (Step_of a) (a + 1)
step_only ks a k x' m' h' s' =
    let v = step_view ks x' a m' k h' in
    (sym v.0, sym v.1)

-- a postfix operator that is told by its first token is the only one there, whatever its parts are called
pub suffix_at : (ks : List Kind) → (l a : ℕ) → (x y : Behind) → (m k : ℕ) → l ≡ 16 → y ≡ x → k ≡ m → OnlyBehind ks 16 a x m
    → OnlyBehind ks l a y k
suffix_at ks l a x y m k e f g only x' m' h' s' =
    let same = only x' m' (subst (λ n. HoldsBehind ks n x' a m') e h') (any_stop ks m') in
    (f ∙ same.0, g ∙ same.1)

pub call_end : (a c m : ℕ) → c ≡ a + 1 → m ≡ c + 1 → m ≡ a + 2
call_end a c m e f = omega (arith, e, f)
