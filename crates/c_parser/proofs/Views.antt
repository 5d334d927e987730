-- What a tree is at its level of precedence: first what has the level itself, then the tokens that tell the parts apart.
use Rattle.std.proofs.Common.{◌≡◌, refl, ap, sym, ◌∙◌, subst, ℕ, ◌+◌, ◌-◌, ◌<◌, ◌≤◌, List, arith, ◌⊎◌, inl, inr, true, false, true≢false, not}
use Rattle.tree_data.specs.Trees.{Naming, Tree, Name_of, Constant_of, Text_of, Paren_of, Postfix_of, Unary_of, Binary_of, Conditional_of, Assign_of, Of_type, Compound_of, Behind, Operand_of, Index_of, Call_of, Call_with_of, Member_of, Step_of, Behinds, None_behind, Behind_then, Front, Operator_of, Cast_of, Choice_of, Left_of, Fronts, None_before, Front_then, Braces, Braces_of, Generic_of, Offset_of, Associations}
use Rattle.c_parser.specs.declared.kinds.Kind.{Kind}
use Rattle.c_parser.specs.declared.kinds.Kind.TheVariants.{Identifier, Constant, Text, OpenParen, CloseParen, OpenBracket, CloseBracket, OpenBrace, Step, Question, Colon, Comma, Generic, OffsetOf, SizeOf, AlignOf}
use Rattle.c_parser.specs.Grammar.{IsMore, IsAny, IsBefore, AreSteps, goes_on}
use Rattle.c_parser.specs.Joining.{followed, preceded}
use Rattle.c_parser.specs.Kinds.{kind_at, level_at, is_prefix, is_word, is_size, is_opening, ends_type, casts_at, is_member, is_tight}
use Rattle.c_parser.specs.Levels.{IsBinary, behinds_level, fronts_level, rank}
use Rattle.c_parser.specs.Reading.{HoldTexts, Holds, HoldsBehind, HoldBehinds, HoldsFront, HoldFronts, HoldBraces, HoldAssociations, HoldsType, Reads, Stops}
use Rattle.c_parser.proofs.Marks.{clash, leveled, is_start, prefix_starts, size_starts, no_type, member_not, member_level}
use Rattle.c_parser.proofs.Typed.{Typed}
use Rattle.c_parser.proofs.Types.{type_starts}
use native.Mathlib.Decide.{dec_lt}

pub lowered : (ks : List Kind) → (n m : ℕ) → (t : Tree) → (a b : ℕ) → n ≤ m → Reads ks m t a b → Reads ks n t a b
lowered ks n m t a b le h =
    let r : m ≤ rank ks t = h.0 in
    (omega arith, h.1)

pub looser : (ks : List Kind) → (n m b : ℕ) → n ≤ m → Stops ks n b → Stops ks m b
looser ks n m b le s =
    let s' : level_at ks b < n = s in
    omega arith

-- a tree of a level has that level itself or the next one
pub parted : (ks : List Kind) → (n : ℕ) → (t : Tree) → (a b : ℕ) → Reads ks n t a b → (rank ks t ≡ n) ⊎ Reads ks (n + 1) t a b
parted ks n t a b h =
    let le : n ≤ rank ks t = h.0 in
    elim (dec_lt n (rank ks t)) [
      | yes lt ↦ inr ((let lt' : n < rank ks t = lt in omega arith), h.1)
      | no ge ↦
          let ge' : n < rank ks t → ⊥ = ge in
          inl (omega arith)
    ]

pub fronts_low : (fs : Fronts) → 14 ≤ fronts_level fs
fronts_low None_before = omega arith
fronts_low (Front_then (Operator_of o) fs) = omega arith
fronts_low (Front_then (Cast_of o t c) fs) = omega arith
fronts_low (Front_then (Choice_of t q e c) fs) = omega arith
fronts_low (Front_then (Left_of t o) fs) = omega arith

pub fronts_high : (fs : Fronts) → fronts_level fs ≤ 15
fronts_high None_before = omega arith
fronts_high (Front_then (Operator_of o) fs) = omega arith
fronts_high (Front_then (Cast_of o t c) fs) = omega arith
fronts_high (Front_then (Choice_of t q e c) fs) = omega arith
fronts_high (Front_then (Left_of t o) fs) = omega arith

-- an expression of the next level, and what goes on behind it at this one
pub record Following (ks : List Kind) (l : ℕ) (make : Tree → Behinds → Tree) (t : Tree) (a b : ℕ) : Type 0 where
  pub first : Tree
  pub behind : ℕ
  pub more : Behinds
  pub is : t ≡ followed make first more
  pub reads : Reads ks (l + 1) first a behind
  pub goes : HoldBehinds ks l more behind b
  pub fit : l ≡ 16 → IsMore more → goes_on first ≡ true

-- what stands in front at this level, and an expression of the next one
pub record Preceding (ks : List Kind) (l : ℕ) (make : Fronts → Tree → Tree) (t : Tree) (a b : ℕ) : Type 0 where
  pub before : Fronts
  pub behind : ℕ
  pub last : Tree
  pub is : t ≡ preceded make before last
  pub goes : HoldFronts ks l before a behind
  pub reads : Reads ks (l + 1) last behind b

pub followed_more : (make : Tree → Behinds → Tree) → (f : Tree) → (xs : Behinds) → IsMore xs → followed make f xs ≡ make f xs
followed_more make f None_behind h = absurd h
followed_more make f (Behind_then x xs) h = refl

pub preceded_more : (make : Fronts → Tree → Tree) → (xs : Fronts) → (t : Tree) → IsBefore xs → preceded make xs t ≡ make xs t
preceded_more make None_before t h = absurd h
preceded_more make (Front_then x xs) t h = refl

alone : (ks : List Kind) → (l : ℕ) → (make : Tree → Behinds → Tree) → (t : Tree) → (a b : ℕ) → Reads ks (l + 1) t a b → Following ks l make t a b
alone ks l make t a b h =
    record { first = t; behind = b; more = None_behind; is = refl; reads = h; goes = refl; fit = λ e i. absurd i }

bare : (ks : List Kind) → (l : ℕ) → (make : Fronts → Tree → Tree) → (t : Tree) → (a b : ℕ) → Reads ks (l + 1) t a b → Preceding ks l make t a b
bare ks l make t a b h = record { before = None_before; behind = a; last = t; is = refl; goes = refl; reads = h }

own_postfix : (ks : List Kind) → (t : Tree) → (a b : ℕ) → rank ks t ≡ 16 → Holds ks t a b → Following ks 16 Postfix_of t a b
own_postfix ks (Name_of n) a b e h = absurd (omega (arith, e))
own_postfix ks (Constant_of n) a b e h = absurd (omega (arith, e))
own_postfix ks (Text_of ns) a b e h = absurd (omega (arith, e))
own_postfix ks (Paren_of o u c) a b e h = absurd (omega (arith, e))
own_postfix ks (Postfix_of f bs) a b e h =
    record {
      first = f;
      behind = h.0;
      more = bs;
      is = sym (followed_more Postfix_of f bs h.1);
      reads = (h.2, h.3);
      goes = h.4;
      fit = λ e i. h.5;
    }
own_postfix ks (Unary_of fs u) a b e h =
    let low : 14 ≤ fronts_level fs = fronts_low fs in
    let high : fronts_level fs ≤ 15 = fronts_high fs in
    let same : fronts_level fs ≡ 16 = e in
    absurd (omega arith)
own_postfix ks (Binary_of f bs) a b e h =
    let most : behinds_level ks bs ≤ 13 = h.2.1 in
    let same : behinds_level ks bs ≡ 16 = e in
    let not2 : behinds_level ks bs ≡ 2 → ⊥ = h.2.2 in
    let not3 : behinds_level ks bs ≡ 3 → ⊥ = h.2.3 in
    absurd (omega arith)
own_postfix ks (Conditional_of fs u) a b e h = absurd (omega (arith, e))
own_postfix ks (Assign_of fs u) a b e h = absurd (omega (arith, e))
own_postfix ks (Of_type k o y c) a b e h = absurd (omega (arith, e))
own_postfix ks (Compound_of o y c i) a b e h = absurd (omega (arith, e))
own_postfix ks (Generic_of k o u gs c) a b e h = absurd (omega (arith, e))
own_postfix ks (Offset_of k o y m n bs c) a b e h = absurd (omega (arith, e))

pub postfix_view : (ks : List Kind) → (t : Tree) → (a b : ℕ) → Reads ks 16 t a b → Following ks 16 Postfix_of t a b
postfix_view ks t a b h =
    elim (parted ks 16 t a b h) [
      | inl e ↦ own_postfix ks t a b e h.1
      | inr r ↦ alone ks 16 Postfix_of t a b r
    ]

no_suffix : {A : Type 0} → (l : ℕ) → IsBinary l → l ≡ 16 → A
no_suffix l i e =
    let most : l ≤ 13 = i.1 in
    absurd (omega arith)

too_high : {A : Type 0} → (l r : ℕ) → IsBinary l → 14 ≤ r → r ≡ l → A
too_high l r i le e =
    let most : l ≤ 13 = i.1 in
    absurd (omega arith)

own_binary : (ks : List Kind) → (l : ℕ) → (t : Tree) → (a b : ℕ) → IsBinary l → rank ks t ≡ l → Holds ks t a b → Following ks l Binary_of t a b
own_binary ks l (Name_of n) a b i e h = too_high l 17 i (omega arith) e
own_binary ks l (Constant_of n) a b i e h = too_high l 17 i (omega arith) e
own_binary ks l (Text_of ns) a b i e h = too_high l 17 i (omega arith) e
own_binary ks l (Paren_of o u c) a b i e h = too_high l 17 i (omega arith) e
own_binary ks l (Postfix_of f bs) a b i e h = too_high l 16 i (omega arith) e
own_binary ks l (Unary_of fs u) a b i e h = too_high l (fronts_level fs) i (fronts_low fs) e
own_binary ks l (Binary_of f bs) a b i e h =
    record {
      first = f;
      behind = h.0;
      more = bs;
      is = sym (followed_more Binary_of f bs h.1);
      reads = subst (λ k. Reads ks (k + 1) f a h.0) e (h.3, h.4);
      goes = subst (λ k. HoldBehinds ks k bs h.0 b) e h.5;
      fit = λ x i'. no_suffix l i x;
    }
own_binary ks l (Conditional_of fs u) a b i e h = absurd (i.3 (sym e))
own_binary ks l (Assign_of fs u) a b i e h = absurd (i.2 (sym e))
own_binary ks l (Of_type k o y c) a b i e h = too_high l 17 i (omega arith) e
own_binary ks l (Compound_of o y c x) a b i e h = too_high l 17 i (omega arith) e
own_binary ks l (Generic_of k o u gs c) a b i e h = too_high l 17 i (omega arith) e
own_binary ks l (Offset_of k o y m n bs c) a b i e h = too_high l 17 i (omega arith) e

pub binary_view : (ks : List Kind) → (l : ℕ) → IsBinary l → (t : Tree) → (a b : ℕ) → Reads ks l t a b → Following ks l Binary_of t a b
binary_view ks l i t a b h =
    elim (parted ks l t a b h) [
      | inl e ↦ own_binary ks l t a b i e h.1
      | inr r ↦ alone ks l Binary_of t a b r
    ]

own_unary : (ks : List Kind) → (t : Tree) → (a b : ℕ) → rank ks t ≡ 15 → Holds ks t a b → Preceding ks 15 Unary_of t a b
own_unary ks (Name_of n) a b e h = absurd (omega (arith, e))
own_unary ks (Constant_of n) a b e h = absurd (omega (arith, e))
own_unary ks (Text_of ns) a b e h = absurd (omega (arith, e))
own_unary ks (Paren_of o u c) a b e h = absurd (omega (arith, e))
own_unary ks (Postfix_of f bs) a b e h = absurd (omega (arith, e))
own_unary ks (Unary_of fs u) a b e h =
    record {
      before = fs;
      behind = h.0;
      last = u;
      is = sym (preceded_more Unary_of fs u h.1);
      goes = h.2;
      reads = (h.3, h.4);
    }
own_unary ks (Binary_of f bs) a b e h =
    let most : behinds_level ks bs ≤ 13 = h.2.1 in
    let same : behinds_level ks bs ≡ 15 = e in
    let not2 : behinds_level ks bs ≡ 2 → ⊥ = h.2.2 in
    let not3 : behinds_level ks bs ≡ 3 → ⊥ = h.2.3 in
    absurd (omega arith)
own_unary ks (Conditional_of fs u) a b e h = absurd (omega (arith, e))
own_unary ks (Assign_of fs u) a b e h = absurd (omega (arith, e))
own_unary ks (Of_type k o y c) a b e h = absurd (omega (arith, e))
own_unary ks (Compound_of o y c i) a b e h = absurd (omega (arith, e))
own_unary ks (Generic_of k o u gs c) a b e h = absurd (omega (arith, e))
own_unary ks (Offset_of k o y m n bs c) a b e h = absurd (omega (arith, e))

pub unary_view : (ks : List Kind) → (t : Tree) → (a b : ℕ) → Reads ks 15 t a b → Preceding ks 15 Unary_of t a b
unary_view ks t a b h =
    elim (parted ks 15 t a b h) [
      | inl e ↦ own_unary ks t a b e h.1
      | inr r ↦ bare ks 15 Unary_of t a b r
    ]

own_conditional : (ks : List Kind) → (t : Tree) → (a b : ℕ) → rank ks t ≡ 3 → Holds ks t a b → Preceding ks 3 Conditional_of t a b
own_conditional ks (Name_of n) a b e h = absurd (omega (arith, e))
own_conditional ks (Constant_of n) a b e h = absurd (omega (arith, e))
own_conditional ks (Text_of ns) a b e h = absurd (omega (arith, e))
own_conditional ks (Paren_of o u c) a b e h = absurd (omega (arith, e))
own_conditional ks (Postfix_of f bs) a b e h = absurd (omega (arith, e))
own_conditional ks (Unary_of fs u) a b e h =
    let low : 14 ≤ fronts_level fs = fronts_low fs in
    let high : fronts_level fs ≤ 15 = fronts_high fs in
    let same : fronts_level fs ≡ 3 = e in
    absurd (omega arith)
own_conditional ks (Binary_of f bs) a b e h =
    let most : behinds_level ks bs ≤ 13 = h.2.1 in
    let same : behinds_level ks bs ≡ 3 = e in
    let not2 : behinds_level ks bs ≡ 2 → ⊥ = h.2.2 in
    let not3 : behinds_level ks bs ≡ 3 → ⊥ = h.2.3 in
    absurd (omega arith)
own_conditional ks (Conditional_of fs u) a b e h =
    record {
      before = fs;
      behind = h.0;
      last = u;
      is = sym (preceded_more Conditional_of fs u h.1);
      goes = h.2;
      reads = (h.3, h.4);
    }
own_conditional ks (Assign_of fs u) a b e h = absurd (omega (arith, e))
own_conditional ks (Of_type k o y c) a b e h = absurd (omega (arith, e))
own_conditional ks (Compound_of o y c i) a b e h = absurd (omega (arith, e))
own_conditional ks (Generic_of k o u gs c) a b e h = absurd (omega (arith, e))
own_conditional ks (Offset_of k o y m n bs c) a b e h = absurd (omega (arith, e))

pub conditional_view : (ks : List Kind) → (t : Tree) → (a b : ℕ) → Reads ks 3 t a b → Preceding ks 3 Conditional_of t a b
conditional_view ks t a b h =
    elim (parted ks 3 t a b h) [
      | inl e ↦ own_conditional ks t a b e h.1
      | inr r ↦ bare ks 3 Conditional_of t a b r
    ]

own_assign : (ks : List Kind) → (t : Tree) → (a b : ℕ) → rank ks t ≡ 2 → Holds ks t a b → Preceding ks 2 Assign_of t a b
own_assign ks (Name_of n) a b e h = absurd (omega (arith, e))
own_assign ks (Constant_of n) a b e h = absurd (omega (arith, e))
own_assign ks (Text_of ns) a b e h = absurd (omega (arith, e))
own_assign ks (Paren_of o u c) a b e h = absurd (omega (arith, e))
own_assign ks (Postfix_of f bs) a b e h = absurd (omega (arith, e))
own_assign ks (Unary_of fs u) a b e h =
    let low : 14 ≤ fronts_level fs = fronts_low fs in
    let high : fronts_level fs ≤ 15 = fronts_high fs in
    let same : fronts_level fs ≡ 2 = e in
    absurd (omega arith)
own_assign ks (Binary_of f bs) a b e h =
    let most : behinds_level ks bs ≤ 13 = h.2.1 in
    let same : behinds_level ks bs ≡ 2 = e in
    let not2 : behinds_level ks bs ≡ 2 → ⊥ = h.2.2 in
    let not3 : behinds_level ks bs ≡ 3 → ⊥ = h.2.3 in
    absurd (omega arith)
own_assign ks (Conditional_of fs u) a b e h = absurd (omega (arith, e))
own_assign ks (Assign_of fs u) a b e h =
    record {
      before = fs;
      behind = h.0;
      last = u;
      is = sym (preceded_more Assign_of fs u h.1);
      goes = h.2;
      reads = (h.3, h.4);
    }
own_assign ks (Of_type k o y c) a b e h = absurd (omega (arith, e))
own_assign ks (Compound_of o y c i) a b e h = absurd (omega (arith, e))
own_assign ks (Generic_of k o u gs c) a b e h = absurd (omega (arith, e))
own_assign ks (Offset_of k o y m n bs c) a b e h = absurd (omega (arith, e))

pub assign_view : (ks : List Kind) → (t : Tree) → (a b : ℕ) → Reads ks 2 t a b → Preceding ks 2 Assign_of t a b
assign_view ks t a b h =
    elim (parted ks 2 t a b h) [
      | inl e ↦ own_assign ks t a b e h.1
      | inr r ↦ bare ks 2 Assign_of t a b r
    ]

-- with a cast in front
own_cast : (ks : List Kind) → (t : Tree) → (a b : ℕ) → rank ks t ≡ 14 → Holds ks t a b → Preceding ks 15 Unary_of t a b
own_cast ks (Name_of n) a b e h = absurd (omega (arith, e))
own_cast ks (Constant_of n) a b e h = absurd (omega (arith, e))
own_cast ks (Text_of ns) a b e h = absurd (omega (arith, e))
own_cast ks (Paren_of o u c) a b e h = absurd (omega (arith, e))
own_cast ks (Postfix_of f bs) a b e h = absurd (omega (arith, e))
own_cast ks (Unary_of fs u) a b e h =
    record {
      before = fs;
      behind = h.0;
      last = u;
      is = sym (preceded_more Unary_of fs u h.1);
      goes = h.2;
      reads = (h.3, h.4);
    }
own_cast ks (Binary_of f bs) a b e h =
    let most : behinds_level ks bs ≤ 13 = h.2.1 in
    let same : behinds_level ks bs ≡ 14 = e in
    let not2 : behinds_level ks bs ≡ 2 → ⊥ = h.2.2 in
    let not3 : behinds_level ks bs ≡ 3 → ⊥ = h.2.3 in
    absurd (omega arith)
own_cast ks (Conditional_of fs u) a b e h = absurd (omega (arith, e))
own_cast ks (Assign_of fs u) a b e h = absurd (omega (arith, e))
own_cast ks (Of_type k o y c) a b e h = absurd (omega (arith, e))
own_cast ks (Compound_of o y c i) a b e h = absurd (omega (arith, e))
own_cast ks (Generic_of k o u gs c) a b e h = absurd (omega (arith, e))
own_cast ks (Offset_of k o y m n bs c) a b e h = absurd (omega (arith, e))

pub prefixed_view : (ks : List Kind) → (t : Tree) → (a b : ℕ) → Reads ks 14 t a b → Preceding ks 15 Unary_of t a b
prefixed_view ks t a b h =
    elim (parted ks 14 t a b h) [
      | inl e ↦ own_cast ks t a b e h.1
      | inr r ↦ unary_view ks t a b r
    ]

-- where a tree begins
prefix_opens_not : (k : Kind) → is_prefix k ≡ true → is_opening k ≡ false
prefix_opens_not OpenParen h = absurd (true≢false (sym h))
prefix_opens_not _ h = refl

size_opens_not : (k : Kind) → is_size k ≡ true → is_opening k ≡ false
size_opens_not OpenParen h = absurd (true≢false (sym h))
size_opens_not _ h = refl

mutual
  pub starts : (ks : List Kind) → (t : Tree) → (a b : ℕ) → Holds ks t a b → is_start (kind_at ks a) ≡ true
  starts ks (Name_of n) a b h = ap is_start h.1
  starts ks (Constant_of n) a b h = ap is_start h.1
  starts ks (Text_of ns) a b h = ap is_start h.0
  starts ks (Paren_of o t c) a b h = ap is_start h.1
  starts ks (Postfix_of f bs) a b h = starts ks f a h.0 h.3
  starts ks (Unary_of fs t) a b h = front_starts ks 15 fs a h.0 h.1 h.2
  starts ks (Binary_of f bs) a b h = starts ks f a h.0 h.4
  starts ks (Conditional_of fs t) a b h = front_starts ks 3 fs a h.0 h.1 h.2
  starts ks (Assign_of fs t) a b h = front_starts ks 2 fs a h.0 h.1 h.2
  starts ks (Of_type k o t c) a b h = size_starts (kind_at ks a) h.1
  starts ks (Compound_of o t c i) a b h = ap is_start h.1
  starts ks (Generic_of k o t gs c) a b h = ap is_start h.2
  starts ks (Offset_of k o t m n bs c) a b h = ap is_start h.1

  pub front_starts : (ks : List Kind) → (l : ℕ) → (xs : Fronts) → (a m : ℕ) → IsBefore xs → HoldFronts ks l xs a m → is_start (kind_at ks a) ≡ true
  front_starts ks l None_before a m i h = absurd i
  front_starts ks l (Front_then (Operator_of o) xs) a m i h = prefix_starts (kind_at ks a) h.1.2
  front_starts ks l (Front_then (Cast_of o t c) xs) a m i h = ap is_start h.1.2
  front_starts ks l (Front_then (Choice_of t q e c) xs) a m i h = starts ks t a q h.1.2
  front_starts ks l (Front_then (Left_of t o) xs) a m i h = starts ks t a o h.1.2

-- a generic selection, and the place of a member, by their parts
pub record Selected (ks : List Kind) (t : Tree) (a b : ℕ) : Type 0 where
  pub control : Tree
  pub behind : ℕ
  pub choices : Associations
  pub closing : ℕ
  pub is : t ≡ Generic_of a (a + 1) control choices closing
  pub opens : kind_at ks (a + 1) ≡ OpenParen
  pub reads : Reads ks 2 control (a + 2) behind
  pub some : IsAny choices
  pub holds : HoldAssociations ks choices behind closing
  pub closes : kind_at ks closing ≡ CloseParen
  pub ends : b ≡ closing + 1

pub record Located (ks : List Kind) (t : Tree) (a b : ℕ) : Type 0 where
  pub name : Naming
  pub comma : ℕ
  pub steps : Behinds
  pub closing : ℕ
  pub is : t ≡ Offset_of a (a + 1) name comma (comma + 1) steps closing
  pub opens : kind_at ks (a + 1) ≡ OpenParen
  pub holds : HoldsType ks name (a + 2) comma
  pub parts : kind_at ks comma ≡ Comma
  pub word : is_word (kind_at ks (comma + 1)) ≡ true
  pub are : AreSteps ks steps
  pub goes : HoldBehinds ks 16 steps (comma + 2) closing
  pub closes : kind_at ks closing ≡ CloseParen
  pub ends : b ≡ closing + 1

-- a primary expression, by its first token
pub data Primary (ks : List Kind) (t : Tree) (a b : ℕ) : Type 0 where
  a_name : t ≡ Name_of a → kind_at ks a ≡ Identifier → b ≡ a + 1 → Primary ks t a b
  a_constant : t ≡ Constant_of a → kind_at ks a ≡ Constant → b ≡ a + 1 → Primary ks t a b
  a_text : (ns : List ℕ) → t ≡ Text_of ns → kind_at ks a ≡ Text → HoldTexts ks ns a b → Primary ks t a b
  a_paren : (u : Tree) → (c : ℕ) → t ≡ Paren_of a u c → kind_at ks a ≡ OpenParen
      → Reads ks 1 u (a + 1) c → kind_at ks c ≡ CloseParen → b ≡ c + 1 → Primary ks t a b
  a_size : (y : Naming) → (c : ℕ) → t ≡ Of_type a (a + 1) y c → is_size (kind_at ks a) ≡ true → kind_at ks (a + 1) ≡ OpenParen
      → HoldsType ks y (a + 2) c → kind_at ks c ≡ CloseParen → b ≡ c + 1 → (kind_at ks b ≡ OpenBrace → ⊥) → Primary ks t a b
  a_compound : (y : Naming) → (c : ℕ) → (i : Braces) → t ≡ Compound_of a y c i → kind_at ks a ≡ OpenParen
      → HoldsType ks y (a + 1) c → kind_at ks c ≡ CloseParen → HoldBraces ks i (c + 1) b → Primary ks t a b
  a_generic : kind_at ks a ≡ Generic → Selected ks t a b → Primary ks t a b
  an_offset : kind_at ks a ≡ OffsetOf → Located ks t a b → Primary ks t a b

pub primary_view : (ks : List Kind) → (t : Tree) → (a b : ℕ) → Reads ks 17 t a b → Primary ks t a b
primary_view ks (Name_of n) a b h = a_name (ap Name_of h.1.0) h.1.1 h.1.2
primary_view ks (Constant_of n) a b h = a_constant (ap Constant_of h.1.0) h.1.1 h.1.2
primary_view ks (Text_of ns) a b h = a_text ns refl h.1.0 h.1.1
primary_view ks (Paren_of o u c) a b h =
    a_paren u c (ap (λ x. Paren_of x u c) h.1.0) h.1.1 (h.1.2, h.1.3) h.1.4 h.1.5
primary_view ks (Postfix_of f bs) a b h = absurd (omega (arith, h.0))
primary_view ks (Unary_of fs u) a b h =
    let le : 17 ≤ fronts_level fs = h.0 in
    let most : fronts_level fs ≤ 15 = fronts_high fs in
    absurd (omega arith)
primary_view ks (Of_type k o y c) a b h =
    let two : (a + 1) + 1 ≡ a + 2 = omega arith in
    a_size
    y
    c
    (ap (λ x. Of_type x o y c) h.1.0 ∙ ap (λ x. Of_type a x y c) h.1.2)
    h.1.1
    (ap (λ x. kind_at ks x) (sym h.1.2) ∙ h.1.3)
    (subst (λ x. HoldsType ks y x c) (ap (λ x. x + 1) h.1.2 ∙ two) h.1.4)
    h.1.5
    h.1.6
    h.1.7
primary_view ks (Compound_of o y c i) a b h =
    a_compound y c i (ap (λ x. Compound_of x y c i) h.1.0) h.1.1 h.1.2 h.1.3 h.1.4
primary_view ks (Generic_of k o u gs c) a b h =
    let two : (a + 1) + 1 ≡ a + 2 = omega arith in
    a_generic
    h.1.2
    (record {
      control = u;
      behind = h.1.0;
      choices = gs;
      closing = c;
      is = ap (λ x. Generic_of x o u gs c) h.1.1 ∙ ap (λ x. Generic_of a x u gs c) h.1.3;
      opens = ap (λ x. kind_at ks x) (sym h.1.3) ∙ h.1.4;
      reads = (h.1.5, subst (λ x. Holds ks u x h.1.0) (ap (λ x. x + 1) h.1.3 ∙ two) h.1.6);
      some = h.1.7;
      holds = h.1.8;
      closes = h.1.9;
      ends = h.1.10;
    })
primary_view ks (Offset_of k o y m n bs c) a b h =
    let two : (a + 1) + 1 ≡ a + 2 = omega arith in
    let more : (m + 1) + 1 ≡ m + 2 = omega arith in
    an_offset
    h.1.1
    (record {
      name = y;
      comma = m;
      steps = bs;
      closing = c;
      is =
          ap (λ x. Offset_of x o y m n bs c) h.1.0
          ∙ ap (λ x. Offset_of a x y m n bs c) h.1.2
          ∙ ap (λ x. Offset_of a (a + 1) y m x bs c) h.1.6;
      opens = ap (λ x. kind_at ks x) (sym h.1.2) ∙ h.1.3;
      holds = subst (λ x. HoldsType ks y x m) (ap (λ x. x + 1) h.1.2 ∙ two) h.1.4;
      parts = h.1.5;
      word = ap (λ x. is_word (kind_at ks x)) (sym h.1.6) ∙ h.1.7;
      are = h.1.8;
      goes = subst (λ x. HoldBehinds ks 16 bs x c) (ap (λ x. x + 1) h.1.6 ∙ more) h.1.9;
      closes = h.1.10;
      ends = h.1.11;
    })
primary_view ks (Binary_of f bs) a b h =
    let le : 17 ≤ behinds_level ks bs = h.0 in
    let most : behinds_level ks bs ≤ 13 = h.1.2.1 in
    absurd (omega arith)
primary_view ks (Conditional_of fs u) a b h = absurd (omega (arith, h.0))
primary_view ks (Assign_of fs u) a b h = absurd (omega (arith, h.0))

-- the size or alignment of a type stands here, and no `{` makes the front of a compound literal of it (6.5.3)
pub record SizeAt (kinds : List Kind) (at : ℕ) : Type 0 where
  pub name : Naming
  pub closing : ℕ
  pub sizes : is_size (kind_at kinds at) ≡ true
  pub opens : kind_at kinds (at + 1) ≡ OpenParen
  pub holds : HoldsType kinds name (at + 2) closing
  pub closes : kind_at kinds closing ≡ CloseParen
  pub unbraced : kind_at kinds (closing + 1) ≡ OpenBrace → ⊥

-- a type name in parentheses stands here that is not the front of a compound literal (6.5.4)
pub record CastAt (kinds : List Kind) (at : ℕ) : Type 0 where
  pub name : Naming
  pub closing : ℕ
  pub opens : kind_at kinds at ≡ OpenParen
  pub holds : HoldsType kinds name (at + 1) closing
  pub closes : kind_at kinds closing ≡ CloseParen
  pub unbraced : kind_at kinds (closing + 1) ≡ OpenBrace → ⊥

-- a primary expression begins with no unary operator and no cast
pub record Bare (ks : List Kind) (a : ℕ) : Type 0 where
  pub no_operator : is_prefix (kind_at ks a) ≡ true → SizeAt ks a
  pub no_cast : CastAt ks a → ⊥

plain : (ks : List Kind) → (a : ℕ) → is_prefix (kind_at ks a) ≡ false → is_opening (kind_at ks a) ≡ false → Bare ks a
plain ks a p o = record {
  no_operator = λ h. absurd (true≢false (sym h ∙ p));
  no_cast = λ c. true≢false (sym (ap is_opening c.opens) ∙ o);
}

braced_first : {A : Type 0} → (ks : List Kind) → (i : Braces) → (a b : ℕ) → HoldBraces ks i a b → (kind_at ks a ≡ OpenBrace → ⊥) → A
braced_first ks (Braces_of o p ps t c) a b h n = absurd (n h.3)

pub no_cast_literal : (ks : List Kind) → (y : Naming) → (a c : ℕ) → Typed ks (a + 1) → (i : Braces) → (b : ℕ) → HoldsType ks y (a + 1) c → kind_at ks c ≡ CloseParen
    → HoldBraces ks i (c + 1) b → CastAt ks a → ⊥
no_cast_literal ks y a c u i b h l g cast =
    let same = u false y c h (ap ends_type l) cast.name cast.closing cast.holds (ap ends_type cast.closes) in
    braced_first ks i (c + 1) b g (subst (λ k. kind_at ks (k + 1) ≡ OpenBrace → ⊥) (sym same.1) cast.unbraced)

first_primary : (ks : List Kind) → (t : Tree) → (a b : ℕ) → Typed ks (a + 1) → Primary ks t a b → Bare ks a
first_primary ks t a b u (a_name e k f) = plain ks a (ap is_prefix k) (ap is_opening k)
first_primary ks t a b u (a_constant e k f) = plain ks a (ap is_prefix k) (ap is_opening k)
first_primary ks t a b u (a_text ns e k f) = plain ks a (ap is_prefix k) (ap is_opening k)
first_primary ks t a b w (a_paren u c e k r l f) = record {
  no_operator = λ h. absurd (true≢false (sym h ∙ ap is_prefix k));
  no_cast = λ x.
      true≢false
      (sym (type_starts ks x.name (a + 1) x.closing x.holds)
      ∙ no_type (kind_at ks (a + 1)) (starts ks u (a + 1) c r.1));
}
first_primary ks t a b u (a_size y c e k o h l f n) = record {
  no_operator = λ x.
      record {
        name = y;
        closing = c;
        sizes = k;
        opens = o;
        holds = h;
        closes = l;
        unbraced = subst (λ m. kind_at ks m ≡ OpenBrace → ⊥) f n;
      };
  no_cast = λ x. true≢false (sym (ap is_opening x.opens) ∙ size_opens_not (kind_at ks a) k);
}
first_primary ks t a b u (a_compound y c i e k h l g) = record {
  no_operator = λ x. absurd (true≢false (sym x ∙ ap is_prefix k));
  no_cast = no_cast_literal ks y a c u i b h l g;
}
first_primary ks t a b u (a_generic k v) = plain ks a (ap is_prefix k) (ap is_opening k)
first_primary ks t a b u (an_offset k v) = plain ks a (ap is_prefix k) (ap is_opening k)

pub first_postfix : (ks : List Kind) → (t : Tree) → (a b : ℕ) → Typed ks (a + 1) → Reads ks 16 t a b → Bare ks a
first_postfix ks t a b u h =
    let v = postfix_view ks t a b h in
    first_primary ks v.first a v.behind u (primary_view ks v.first a v.behind v.reads)

pub cast_here : (ks : List Kind) → (y : Naming) → (a c m : ℕ) → kind_at ks a ≡ OpenParen → HoldsType ks y (a + 1) c → kind_at ks c ≡ CloseParen
    → m ≡ c + 1 → (kind_at ks m ≡ OpenBrace → ⊥) → CastAt ks a
cast_here ks y a c m k h l f n = record {
  name = y;
  closing = c;
  opens = k;
  holds = h;
  closes = l;
  unbraced = subst (λ x. kind_at ks x ≡ OpenBrace → ⊥) f n;
}

pub opened_prefix : {A : Type 0} → (ks : List Kind) → (a : ℕ) → is_prefix (kind_at ks a) ≡ true → kind_at ks a ≡ OpenParen → A
opened_prefix ks a p k = absurd (true≢false (sym (ap is_opening k) ∙ prefix_opens_not (kind_at ks a) p))

-- a unary expression begins with no cast
begins_unary : (ks : List Kind) → (t : Tree) → (a b : ℕ) → rank ks t ≡ 15 → Holds ks t a b → CastAt ks a → ⊥
begins_unary ks (Unary_of None_before u) a b e h = absurd h.1
begins_unary ks (Unary_of (Front_then (Operator_of o) fs) u) a b e h =
    λ x. opened_prefix ks a h.2.1.2 x.opens
begins_unary ks (Unary_of (Front_then (Cast_of o y c) fs) u) a b e h = absurd (omega (arith, e))
begins_unary ks (Unary_of (Front_then (Choice_of t q x c) fs) u) a b e h = absurd (omega (arith, h.2.1.0))
begins_unary ks (Unary_of (Front_then (Left_of t o) fs) u) a b e h = absurd (omega (arith, h.2.1.0))
begins_unary ks (Name_of n) a b e h = absurd (omega (arith, e))
begins_unary ks (Constant_of n) a b e h = absurd (omega (arith, e))
begins_unary ks (Text_of ns) a b e h = absurd (omega (arith, e))
begins_unary ks (Paren_of o u c) a b e h = absurd (omega (arith, e))
begins_unary ks (Postfix_of f bs) a b e h = absurd (omega (arith, e))
begins_unary ks (Binary_of f bs) a b e h =
    let most : behinds_level ks bs ≤ 13 = h.2.1 in
    let same : behinds_level ks bs ≡ 15 = e in
    absurd (omega arith)
begins_unary ks (Conditional_of fs u) a b e h = absurd (omega (arith, e))
begins_unary ks (Assign_of fs u) a b e h = absurd (omega (arith, e))
begins_unary ks (Of_type k o y c) a b e h = absurd (omega (arith, e))
begins_unary ks (Compound_of o y c i) a b e h = absurd (omega (arith, e))
begins_unary ks (Generic_of k o u gs c) a b e h = absurd (omega (arith, e))
begins_unary ks (Offset_of k o y m n bs c) a b e h = absurd (omega (arith, e))

pub begins_cast : (ks : List Kind) → (t : Tree) → (a b : ℕ) → rank ks t ≡ 14 → Holds ks t a b → CastAt ks a
begins_cast ks (Unary_of None_before u) a b e h = absurd h.1
begins_cast ks (Unary_of (Front_then (Operator_of o) fs) u) a b e h = absurd (omega (arith, e))
begins_cast ks (Unary_of (Front_then (Cast_of o y c) fs) u) a b e h = cast_here ks y a c h.2.0 h.2.1.2 h.2.1.4 h.2.1.5 h.2.1.6 h.2.1.7
begins_cast ks (Unary_of (Front_then (Choice_of t q x c) fs) u) a b e h = absurd (omega (arith, e))
begins_cast ks (Unary_of (Front_then (Left_of t o) fs) u) a b e h = absurd (omega (arith, e))
begins_cast ks (Name_of n) a b e h = absurd (omega (arith, e))
begins_cast ks (Constant_of n) a b e h = absurd (omega (arith, e))
begins_cast ks (Text_of ns) a b e h = absurd (omega (arith, e))
begins_cast ks (Paren_of o u c) a b e h = absurd (omega (arith, e))
begins_cast ks (Postfix_of f bs) a b e h = absurd (omega (arith, e))
begins_cast ks (Binary_of f bs) a b e h =
    let most : behinds_level ks bs ≤ 13 = h.2.1 in
    let same : behinds_level ks bs ≡ 14 = e in
    absurd (omega arith)
begins_cast ks (Conditional_of fs u) a b e h = absurd (omega (arith, e))
begins_cast ks (Assign_of fs u) a b e h = absurd (omega (arith, e))
begins_cast ks (Of_type k o y c) a b e h = absurd (omega (arith, e))
begins_cast ks (Compound_of o y c i) a b e h = absurd (omega (arith, e))
begins_cast ks (Generic_of k o u gs c) a b e h = absurd (omega (arith, e))
begins_cast ks (Offset_of k o y m n bs c) a b e h = absurd (omega (arith, e))

pub first_unary : (ks : List Kind) → (t : Tree) → (a b : ℕ) → Typed ks (a + 1) → Reads ks 15 t a b → CastAt ks a → ⊥
first_unary ks t a b u h =
    elim (parted ks 15 t a b h) [
      | inl e ↦ begins_unary ks t a b e h.1
      | inr r ↦ (first_postfix ks t a b u r).no_cast
    ]

not_binary : {A : Type 0} → IsBinary 16 → A
not_binary i = absurd (omega (arith, i.1))

-- a postfix operator, by its first token
pub record Indexing (ks : List Kind) (x : Behind) (a b : ℕ) : Type 0 where
  pub inner : Tree
  pub closing : ℕ
  pub is : x ≡ Index_of a inner closing
  pub reads : Reads ks 1 inner (a + 1) closing
  pub closes : kind_at ks closing ≡ CloseBracket
  pub ends : b ≡ closing + 1

pub index_view : (ks : List Kind) → (x : Behind) → (a b : ℕ) → kind_at ks a ≡ OpenBracket → HoldsBehind ks 16 x a b → Indexing ks x a b
index_view ks (Operand_of o t) a b k h = not_binary h.0
index_view ks (Index_of o t c) a b k h =
    record {
      inner = t;
      closing = c;
      is = ap (λ y. Index_of y t c) h.1;
      reads = (h.3, h.4);
      closes = h.5;
      ends = h.6;
    }
index_view ks (Call_of o c) a b k h = clash (kind_at ks a) OpenBracket OpenParen k h.2 (λ e. omega (arith, e))
index_view ks (Call_with_of o t bs c) a b k h = clash (kind_at ks a) OpenBracket OpenParen k h.3 (λ e. omega (arith, e))
index_view ks (Member_of o n) a b k h = member_not (kind_at ks a) OpenBracket h.2 k refl
index_view ks (Step_of o) a b k h = clash (kind_at ks a) OpenBracket Step k h.2 (λ e. omega (arith, e))

pub data Calling (ks : List Kind) (x : Behind) (a b : ℕ) : Type 0 where
  no_arguments : x ≡ Call_of a (a + 1) → kind_at ks (a + 1) ≡ CloseParen → b ≡ a + 2 → Calling ks x a b
  arguments : (t : Tree) → (m : ℕ) → (bs : Behinds) → (c : ℕ) → x ≡ Call_with_of a t bs c
      → Reads ks 2 t (a + 1) m → HoldBehinds ks 1 bs m c → kind_at ks c ≡ CloseParen → b ≡ c + 1 → Calling ks x a b

pub call_view : (ks : List Kind) → (x : Behind) → (a b : ℕ) → kind_at ks a ≡ OpenParen → HoldsBehind ks 16 x a b → Calling ks x a b
call_view ks (Operand_of o t) a b k h = not_binary h.0
call_view ks (Index_of o t c) a b k h = clash (kind_at ks a) OpenParen OpenBracket k h.2 (λ e. omega (arith, e))
call_view ks (Call_of o c) a b k h =
    let c' : c ≡ a + 1 = h.3 in
    let b' : b ≡ c + 1 = h.5 in
    no_arguments
    (ap (λ y. Call_of y c) h.1 ∙ ap (λ y. Call_of a y) h.3)
    (ap (λ y. kind_at ks y) (sym h.3) ∙ h.4)
    (omega arith)
call_view ks (Call_with_of o t bs c) a b k h = arguments t h.0 bs c (ap (λ y. Call_with_of y t bs c) h.2) (h.4, h.5) h.6 h.7 h.8
call_view ks (Member_of o n) a b k h = member_not (kind_at ks a) OpenParen h.2 k refl
call_view ks (Step_of o) a b k h = clash (kind_at ks a) OpenParen Step k h.2 (λ e. omega (arith, e))

pub record Selecting (ks : List Kind) (x : Behind) (a b : ℕ) : Type 0 where
  pub is : x ≡ Member_of a (a + 1)
  pub word : is_word (kind_at ks (a + 1)) ≡ true
  pub ends : b ≡ a + 2

pub member_view : (ks : List Kind) → (x : Behind) → (a b : ℕ) → is_member (kind_at ks a) ≡ true → HoldsBehind ks 16 x a b → Selecting ks x a b
member_view ks (Operand_of o t) a b k h = not_binary h.0
member_view ks (Index_of o t c) a b k h = member_not (kind_at ks a) OpenBracket k h.2 refl
member_view ks (Call_of o c) a b k h = member_not (kind_at ks a) OpenParen k h.2 refl
member_view ks (Call_with_of o t bs c) a b k h = member_not (kind_at ks a) OpenParen k h.3 refl
member_view ks (Member_of o n) a b k h =
    let n' : n ≡ a + 1 = h.3 in
    let b' : b ≡ n + 1 = h.5 in
    record {
      is = ap (λ y. Member_of y n) h.1 ∙ ap (λ y. Member_of a y) h.3;
      word = ap (λ y. is_word (kind_at ks y)) (sym h.3) ∙ h.4;
      ends = omega arith;
    }
member_view ks (Step_of o) a b k h = member_not (kind_at ks a) Step k h.2 refl

pub step_view : (ks : List Kind) → (x : Behind) → (a b : ℕ) → kind_at ks a ≡ Step → HoldsBehind ks 16 x a b → (x ≡ Step_of a) × (b ≡ a + 1)
step_view ks (Operand_of o t) a b k h = not_binary h.0
step_view ks (Index_of o t c) a b k h = clash (kind_at ks a) Step OpenBracket k h.2 (λ e. omega (arith, e))
step_view ks (Call_of o c) a b k h = clash (kind_at ks a) Step OpenParen k h.2 (λ e. omega (arith, e))
step_view ks (Call_with_of o t bs c) a b k h = clash (kind_at ks a) Step OpenParen k h.3 (λ e. omega (arith, e))
step_view ks (Member_of o n) a b k h = member_not (kind_at ks a) Step h.2 k refl
step_view ks (Step_of o) a b k h = (ap Step_of h.1, h.3)

-- a binary operator with its operand
pub record Operating (ks : List Kind) (l : ℕ) (x : Behind) (a b : ℕ) : Type 0 where
  pub operand : Tree
  pub is : x ≡ Operand_of a operand
  pub reads : Reads ks (l + 1) operand (a + 1) b

pub operand_view : (ks : List Kind) → (l : ℕ) → (x : Behind) → (a b : ℕ) → IsBinary l → HoldsBehind ks l x a b → Operating ks l x a b
operand_view ks l (Operand_of o t) a b i h = record { operand = t; is = ap (λ y. Operand_of y t) h.1; reads = (h.3, h.4) }
operand_view ks l (Index_of o t c) a b i h = no_suffix l i h.0
operand_view ks l (Call_of o c) a b i h = no_suffix l i h.0
operand_view ks l (Call_with_of o t bs c) a b i h = no_suffix l i h.1
operand_view ks l (Member_of o n) a b i h = no_suffix l i h.0
operand_view ks l (Step_of o) a b i h = no_suffix l i h.0

-- what goes on at a level has a token of the level first
pub begins : (ks : List Kind) → (l : ℕ) → (x : Behind) → (a b : ℕ) → HoldsBehind ks l x a b → level_at ks a ≡ l
begins ks l (Operand_of o t) a b h = h.2
begins ks l (Index_of o t c) a b h = leveled (kind_at ks a) OpenBracket h.2 ∙ sym h.0
begins ks l (Call_of o c) a b h = leveled (kind_at ks a) OpenParen h.2 ∙ sym h.0
begins ks l (Call_with_of o t bs c) a b h = leveled (kind_at ks a) OpenParen h.3 ∙ sym h.1
begins ks l (Member_of o n) a b h = member_level (kind_at ks a) h.2 ∙ sym h.0
begins ks l (Step_of o) a b h = leveled (kind_at ks a) Step h.2 ∙ sym h.0

-- where something goes on at a level, nothing goes on at a higher one
pub loosely : (ks : List Kind) → (l : ℕ) → (xs : Behinds) → (m b : ℕ) → HoldBehinds ks l xs m b → Stops ks l b → Stops ks (l + 1) m
loosely ks l None_behind m b h s =
    let here : level_at ks m < l = subst (λ x. level_at ks x < l) h s in
    omega arith
loosely ks l (Behind_then x xs) m b h s =
    let here : level_at ks m ≡ l = begins ks l x m h.0 h.1 in
    omega arith

-- what stands in front, by its level
pub record Choosing (ks : List Kind) (x : Front) (a b : ℕ) : Type 0 where
  pub test : Tree
  pub question : ℕ
  pub middle : Tree
  pub colon : ℕ
  pub is : x ≡ Choice_of test question middle colon
  pub tests : Reads ks 4 test a question
  pub asks : kind_at ks question ≡ Question
  pub reads : Reads ks 1 middle (question + 1) colon
  pub parts : kind_at ks colon ≡ Colon
  pub ends : b ≡ colon + 1

pub record Placing (ks : List Kind) (x : Front) (a b : ℕ) : Type 0 where
  pub place : Tree
  pub operator : ℕ
  pub is : x ≡ Left_of place operator
  pub reads : Reads ks 15 place a operator
  pub assigns : level_at ks operator ≡ 2
  pub ends : b ≡ operator + 1

-- a unary operator, or a cast
pub data Prefixing (ks : List Kind) (x : Front) (a b : ℕ) : Type 0 where
  an_operator : x ≡ Operator_of a → is_prefix (kind_at ks a) ≡ true → b ≡ a + 1 → Prefixing ks x a b
  a_cast : (y : Naming) → (c : ℕ) → x ≡ Cast_of a y c → kind_at ks a ≡ OpenParen → casts_at ks a ≡ true → HoldsType ks y (a + 1) c
      → kind_at ks c ≡ CloseParen → b ≡ c + 1 → (kind_at ks b ≡ OpenBrace → ⊥) → Prefixing ks x a b

pub prefix_view : (ks : List Kind) → (x : Front) → (a b : ℕ) → HoldsFront ks 15 x a b → Prefixing ks x a b
prefix_view ks (Operator_of o) a b h = an_operator (ap Operator_of h.1) h.2 h.3
prefix_view ks (Cast_of o y c) a b h = a_cast y c (ap (λ k. Cast_of k y c) h.1) h.2 h.3 h.4 h.5 h.6 h.7
prefix_view ks (Choice_of t q e c) a b h = absurd (omega (arith, h.0))
prefix_view ks (Left_of t o) a b h = absurd (omega (arith, h.0))

pub choice_view : (ks : List Kind) → (x : Front) → (a b : ℕ) → HoldsFront ks 3 x a b → Choosing ks x a b
choice_view ks (Operator_of o) a b h = absurd (omega (arith, h.0))
choice_view ks (Cast_of o y c) a b h = absurd (omega (arith, h.0))
choice_view ks (Choice_of t q e c) a b h =
    record {
      test = t;
      question = q;
      middle = e;
      colon = c;
      is = refl;
      tests = (h.1, h.2);
      asks = h.3;
      reads = (h.4, h.5);
      parts = h.6;
      ends = h.7;
    }
choice_view ks (Left_of t o) a b h = absurd (omega (arith, h.0))

pub left_view : (ks : List Kind) → (x : Front) → (a b : ℕ) → HoldsFront ks 2 x a b → Placing ks x a b
left_view ks (Operator_of o) a b h = absurd (omega (arith, h.0))
left_view ks (Cast_of o y c) a b h = absurd (omega (arith, h.0))
left_view ks (Choice_of t q e c) a b h = absurd (omega (arith, h.0))
left_view ks (Left_of t o) a b h =
    record { place = t; operator = o; is = refl; reads = (h.1, h.2); assigns = h.3; ends = h.4 }

-- what stands behind a part in front: others, and an expression of the next level
pub record Goes (ks : List Kind) (l m : ℕ) : Type 0 where
  pub more : Fronts
  pub behind : ℕ
  pub last : Tree
  pub end : ℕ
  pub goes : HoldFronts ks l more m behind
  pub reads : Reads ks (l + 1) last behind end

tight : (k : Kind) → is_size k ≡ true → is_prefix k ≡ true → is_tight k ≡ true
tight SizeOf s p = refl
tight AlignOf s p = absurd (true≢false (sym p))
tight _ s p = absurd (true≢false (sym s))

casts_not : (ks : List Kind) → (a : ℕ) → is_tight (kind_at ks a) ≡ true → casts_at ks (a + 1) ≡ false
unfolding casts_at
casts_not ks a t =
    let same : (a + 1) - 1 ≡ a = omega arith in
    ap (λ x. not (is_tight (kind_at ks x))) same ∙ ap not t

-- behind `sizeof` in front of a type name in parentheses, without a `{`, no operand stands
sized_primary : {A : Type 0} → (ks : List Kind) → (a : ℕ) → Typed ks (a + 2) → SizeAt ks a → (f : Tree) → (m : ℕ) → Primary ks f (a + 1) m → A
sized_primary ks a w s f m (a_name e k g) = absurd (true≢false (sym (ap is_opening s.opens) ∙ ap is_opening k))
sized_primary ks a w s f m (a_constant e k g) = absurd (true≢false (sym (ap is_opening s.opens) ∙ ap is_opening k))
sized_primary ks a w s f m (a_text ns e k g) = absurd (true≢false (sym (ap is_opening s.opens) ∙ ap is_opening k))
sized_primary ks a w s f m (a_generic k v) = absurd (true≢false (sym (ap is_opening s.opens) ∙ ap is_opening k))
sized_primary ks a w s f m (an_offset k v) = absurd (true≢false (sym (ap is_opening s.opens) ∙ ap is_opening k))
sized_primary ks a w s f m (a_size y c e k o h l g n) = absurd (true≢false (sym k ∙ ap is_size s.opens))
sized_primary ks a w s f m (a_paren u c e k r l g) =
    let two : (a + 1) + 1 ≡ a + 2 = omega arith in
    let here : HoldsType ks s.name ((a + 1) + 1) s.closing = subst (λ x. HoldsType ks s.name x s.closing) (sym two) s.holds in
    absurd
    (true≢false
    (sym (type_starts ks s.name ((a + 1) + 1) s.closing here)
    ∙ no_type (kind_at ks ((a + 1) + 1)) (starts ks u ((a + 1) + 1) c r.1)))
sized_primary ks a w s f m (a_compound y c i e k h l g) =
    let two : (a + 1) + 1 ≡ a + 2 = omega arith in
    let same =
    w false y c (subst (λ x. HoldsType ks y x c) two h) (ap ends_type l) s.name s.closing s.holds (ap ends_type s.closes) in
    braced_first ks i (c + 1) m g (subst (λ x. kind_at ks (x + 1) ≡ OpenBrace → ⊥) (sym same.1) s.unbraced)

sized_front : {A : Type 0} → (ks : List Kind) → (a : ℕ) → SizeAt ks a → is_prefix (kind_at ks a) ≡ true → (x : Front) → (m : ℕ)
    → Prefixing ks x (a + 1) m → A
sized_front ks a s p x m (an_operator e k f) = opened_prefix ks (a + 1) k s.opens
sized_front ks a s p x m (a_cast y c e k z h l f u) =
    absurd (true≢false (sym z ∙ casts_not ks a (tight (kind_at ks a) s.sizes p)))

sized_goes : {A : Type 0} → (ks : List Kind) → (a : ℕ) → Typed ks (a + 2) → SizeAt ks a → is_prefix (kind_at ks a) ≡ true → (xs : Fronts) → (m : ℕ) → (t : Tree)
    → (b : ℕ) → HoldFronts ks 15 xs (a + 1) m → Reads ks 16 t m b → A
sized_goes ks a w s p None_before m t b h r =
    let v = postfix_view ks t (a + 1) b (subst (λ x. Reads ks 16 t x b) h r) in
    sized_primary ks a w s v.first v.behind (primary_view ks v.first (a + 1) v.behind v.reads)
sized_goes ks a w s p (Front_then x xs) m t b h r = sized_front ks a s p x h.0 (prefix_view ks x (a + 1) h.0 h.1)

pub size_clashes : {A : Type 0} → (ks : List Kind) → (a : ℕ) → Typed ks (a + 2) → SizeAt ks a → is_prefix (kind_at ks a) ≡ true → Goes ks 15 (a + 1) → A
size_clashes ks a w s p g = sized_goes ks a w s p g.more g.behind g.last g.end g.goes g.reads
