-- Brackets are balanced in expressions, initializers, names of types and heads, and outside of them no `;` stands there.
use Rattle.std.proofs.Common.{◌≡◌, refl, ap, sym, ◌∙◌, subst, ℕ, zero, suc, ◌+◌, ◌-◌, ◌≤◌, arith, Bool, true, false, true≢false, not, ◌&&◌, ◌||◌, ◌==◌, List, [], ◌∷◌, map, Option, None, Some}
use Rattle.std.specs.Prelude.{if◌then◌else◌}
use Rattle.tree_data.specs.Trees.{Tree, Name_of, Constant_of, Text_of, Paren_of, Postfix_of, Unary_of, Binary_of, Conditional_of, Assign_of, Of_type, Compound_of, Generic_of, Offset_of, Behind, Operand_of, Index_of, Call_of, Call_with_of, Member_of, Step_of, Behinds, None_behind, Behind_then, Front, Operator_of, Cast_of, Choice_of, Left_of, Fronts, None_before, Front_then, Braces, Braces_of, Initial, Value_of, List_of, Piece, Plain_of, Designated_of, Pieces, No_pieces, Piece_then, Designator, Element_of, Field_of, Designators, No_designators, Designator_then, Association, Typed_of, Default_of, Associations, No_associations, Association_then, Specifying, Word_of, Typedef_of, Tag_of, Atomic_of, Specifyings, No_specifiers, Specifier_then, Naming, Type_of, Declaring, Declaring_of, Grouping, No_group, Named_of, Group_of, Deriving, Array_of, Function_of, Derivings, No_derivings, Deriving_then, Parameters, No_parameters, Fixed_of, Variadic_of, Names_of, Row, No_more, Parameter_then, Bound, Unsized_of, Any_size_of, Sized_of, Static_sized_of, Sized_static_of, Aligned_as_of, Aligned_of, Members_of, Enumerators_of, Member, Bare_of, Fields_of, Asserted_of, Members, No_members, Member_then, Field, Declared_of, Bits_of, Padding_of, Fields, No_fields, Field_then, Enumerator, Counted_of, Given_of, Enumerators, No_enumerators, Enumerator_then, Assertion, Assertion_of}
use Rattle.c_parser.specs.declared.kinds.Kind.{Kind}
use Rattle.c_parser.specs.declared.kinds.Kind.TheVariants as kind
use Rattle.c_parser.specs.declared.kinds.Kind.TheVariants.{Identifier, TypeName, OpenParen, CloseParen, OpenBracket, CloseBracket, OpenBrace, CloseBrace, Semicolon, Equals, Comma, Or, And, Bar, Caret, Ampersand, Equality, Relation, Shift, Sign, Star, Quotient, Assignment, Question, Colon, Dot, Ellipsis, Constant, Text, Tag, Enum, Atomic, Static, Generic, OffsetOf, Default, Align, Assert}
use Rattle.c_parser.specs.declared.kinds.Named.{Named}
use Rattle.c_parser.specs.declared.kinds.Named.TheVariants.{Never, Plainly, Freely}
use Rattle.c_parser.specs.Brackets.{closes, opens}
use Rattle.c_parser.specs.Grammar.{past, name_by}
use Rattle.c_parser.specs.Kinds.{kind_at, level_of, is_word, is_identifier, is_size, is_prefix, is_member, is_dot, is_equals, is_typedef, is_qualifier, is_specifying, is_atomic, is_opening, atomic_at, specifies_at, qualifies_at, may_name, hide, hide_kind, hide_word, hidden_one, is_tagging, names_it, plain_behind}
use Rattle.c_parser.specs.Reading.{HoldTexts, HoldsComma, HoldQualifiers, HoldNames, HoldPointers, Holds, HoldsBehind, HoldBehinds, HoldsFront, HoldFronts, HoldBraces, HoldsInitial, HoldsPiece, HoldPieces, HoldsDesignator, HoldDesignators, HoldsAssociation, HoldAssociations, HoldSpecifying, HoldSpecifyings, HoldsNaming, HoldsDeclaring, HoldsGrouping, HoldsDeriving, HoldDerivings, HoldParameters, HoldRow, HoldsBound, HoldsTag, HoldsMember, HoldMembers, HoldsField, HoldFields, HoldsEnumerator, HoldEnumerators, HoldsAssertion, HoldsDeclarator, HoldsDirect}
use Rattle.stmt_parser.specs.Balance.{is_pair, Pairs, No_token, Token_then, Pair_then}
use Rattle.stmt_parser.specs.Externals.{is_close_paren}
use Rattle.stmt_parser.proofs.Balances.{pair_blind}

-- no bracket and no `;`, and where it is asked for no `=` either
abbrev pub plain : Bool → Kind → Bool
plain strict OpenParen = false
plain strict CloseParen = false
plain strict OpenBracket = false
plain strict CloseBracket = false
plain strict OpenBrace = false
plain strict CloseBrace = false
plain strict Semicolon = false
plain strict Equals = not strict
plain strict _ = true

-- a bracket that opens, and where it is asked for no brace; that is asked for behind a `)` alone
abbrev pub opener : Bool → Kind → Bool
opener strict OpenParen = true
opener strict OpenBracket = true
opener strict OpenBrace = not strict
opener strict _ = false

-- brackets match, whatever stands between them
abbrev pub AreMatched : List Kind → Pairs → ℕ → ℕ → Type 0
AreMatched ks No_token a b = b ≡ a
AreMatched ks (Token_then ps) a b = ((opens (kind_at ks a) || closes (kind_at ks a)) ≡ false) × AreMatched ks ps (a + 1) b
AreMatched ks (Pair_then inner ps) a b =
    (c : ℕ) × (opens (kind_at ks a) ≡ true) × AreMatched ks inner (a + 1) c × (is_pair (kind_at ks a) (kind_at ks c) ≡ true) × AreMatched ks ps (c + 1) b

pub record Matched (ks : List Kind) (a b : ℕ) : Type 0 where
  pub pairs : Pairs
  pub are : AreMatched ks pairs a b

pub plain_bracket : (s : Bool) → (k : Kind) → plain s k ≡ true → (opens k || closes k) ≡ false
plain_bracket s OpenParen h = absurd (true≢false (sym h))
plain_bracket s CloseParen h = absurd (true≢false (sym h))
plain_bracket s OpenBracket h = absurd (true≢false (sym h))
plain_bracket s CloseBracket h = absurd (true≢false (sym h))
plain_bracket s OpenBrace h = absurd (true≢false (sym h))
plain_bracket s CloseBrace h = absurd (true≢false (sym h))
plain_bracket s _ h = refl

pub opener_opens : (s : Bool) → (k : Kind) → opener s k ≡ true → opens k ≡ true
opener_opens s OpenParen h = refl
opener_opens s OpenBracket h = refl
opener_opens s OpenBrace h = refl
opener_opens s _ h = absurd (true≢false (sym h))

abbrev pub AreCalm : Bool → List Kind → Pairs → ℕ → ℕ → Type 0
AreCalm s ks No_token a b = b ≡ a
AreCalm s ks (Token_then ps) a b = (plain s (kind_at ks a) ≡ true) × AreCalm s ks ps (a + 1) b
AreCalm s ks (Pair_then inner ps) a b =
    (c : ℕ) × (opener (s && is_close_paren (kind_at ks (a - 1))) (kind_at ks a) ≡ true) × AreMatched ks inner (a + 1) c
    × (is_pair (kind_at ks a) (kind_at ks c) ≡ true) × AreCalm s ks ps (c + 1) b

pub record Calm (s : Bool) (ks : List Kind) (a b : ℕ) : Type 0 where
  pub pairs : Pairs
  pub are : AreCalm s ks pairs a b

matching : (s : Bool) → (ks : List Kind) → (ps : Pairs) → (a b : ℕ) → AreCalm s ks ps a b → AreMatched ks ps a b
matching s ks No_token a b h = h
matching s ks (Token_then ps) a b h = (plain_bracket s (kind_at ks a) h.0, matching s ks ps (a + 1) b h.1)
matching s ks (Pair_then inner ps) a b h = (
  h.0,
  opener_opens (s && is_close_paren (kind_at ks (a - 1))) (kind_at ks a) h.1,
  h.2,
  h.3,
  matching s ks ps (h.0 + 1) b h.4,
)

pub matched : (s : Bool) → (ks : List Kind) → (a b : ℕ) → Calm s ks a b → Matched ks a b
matched s ks a b x = record { pairs = x.pairs; are = matching s ks x.pairs a b x.are }

then_matched : (ks : List Kind) → (ps qs : Pairs) → (a m b : ℕ) → AreMatched ks ps a m → AreMatched ks qs m b → Matched ks a b
then_matched ks No_token qs a m b h g = record { pairs = qs; are = subst (λ i. AreMatched ks qs i b) h g }
then_matched ks (Token_then ps) qs a m b h g =
    let more = then_matched ks ps qs (a + 1) m b h.1 g in
    record { pairs = Token_then more.pairs; are = (h.0, more.are) }
then_matched ks (Pair_then inner ps) qs a m b h g =
    let more = then_matched ks ps qs (h.0 + 1) m b h.4 g in
    record { pairs = Pair_then inner more.pairs; are = (h.0, h.1, h.2, h.3, more.are) }

-- one behind another inside of brackets
pub chain : (ks : List Kind) → (a m b : ℕ) → Matched ks a m → Matched ks m b → Matched ks a b
chain ks a m b x y = then_matched ks x.pairs y.pairs a m b x.are y.are

pub semicolon_matched : (ks : List Kind) → (a b : ℕ) → kind_at ks a ≡ Semicolon → b ≡ a + 1 → Matched ks a b
semicolon_matched ks a b e f = record { pairs = Token_then No_token; are = (ap (λ k. opens k || closes k) e, f) }

joined : (s : Bool) → (ks : List Kind) → (ps qs : Pairs) → (a m b : ℕ) → AreCalm s ks ps a m → AreCalm s ks qs m b → Calm s ks a b
joined s ks No_token qs a m b h g = record { pairs = qs; are = subst (λ i. AreCalm s ks qs i b) h g }
joined s ks (Token_then ps) qs a m b h g =
    let more = joined s ks ps qs (a + 1) m b h.1 g in
    record { pairs = Token_then more.pairs; are = (h.0, more.are) }
joined s ks (Pair_then inner ps) qs a m b h g =
    let more = joined s ks ps qs (h.0 + 1) m b h.4 g in
    record { pairs = Pair_then inner more.pairs; are = (h.0, h.1, h.2, h.3, more.are) }

pub join : (s : Bool) → (ks : List Kind) → (a m b : ℕ) → Calm s ks a m → Calm s ks m b → Calm s ks a b
join s ks a m b x y = joined s ks x.pairs y.pairs a m b x.are y.are

pub nothing : (s : Bool) → (ks : List Kind) → (a b : ℕ) → b ≡ a → Calm s ks a b
nothing s ks a b e = record { pairs = No_token; are = e }

pub token : (s : Bool) → (ks : List Kind) → (a b : ℕ) → plain s (kind_at ks a) ≡ true → b ≡ a + 1 → Calm s ks a b
token s ks a b h e = record { pairs = Token_then No_token; are = (h, e) }

pub mark : (s : Bool) → (ks : List Kind) → (a b : ℕ) → (k : Kind) → kind_at ks a ≡ k → plain s k ≡ true → b ≡ a + 1 → Calm s ks a b
mark s ks a b k e h f = token s ks a b (ap (plain s) e ∙ h) f

-- less is asked for
plain_loose : (k : Kind) → plain true k ≡ true → plain false k ≡ true
plain_loose OpenParen h = h
plain_loose CloseParen h = h
plain_loose OpenBracket h = h
plain_loose CloseBracket h = h
plain_loose OpenBrace h = h
plain_loose CloseBrace h = h
plain_loose Semicolon h = h
plain_loose Equals h = refl
plain_loose _ h = refl

opener_loose : (k : Kind) → opener true k ≡ true → opener false k ≡ true
opener_loose OpenParen h = refl
opener_loose OpenBracket h = refl
opener_loose OpenBrace h = refl
opener_loose _ h = h

pub opener_any : (s : Bool) → (k : Kind) → opener s k ≡ true → opener false k ≡ true
opener_any true k h = opener_loose k h
opener_any false k h = h

opener_weaker : (s p : Bool) → (k : Kind) → opener s k ≡ true → opener (s && p) k ≡ true
opener_weaker true true k h = h
opener_weaker true false k h = opener_loose k h
opener_weaker false p k h = h

pub pair : (s : Bool) → (ks : List Kind) → (a c b : ℕ) → (k l : Kind) → kind_at ks a ≡ k → opener s k ≡ true → Calm false ks (a + 1) c
    → kind_at ks c ≡ l → is_pair k l ≡ true → b ≡ c + 1 → Calm s ks a b
pair s ks a c b k l e o x f g q =
    record {
      pairs = Pair_then x.pairs No_token;
      are = (c, opener_weaker s (is_close_paren (kind_at ks (a - 1))) (kind_at ks a) (ap (opener s) e ∙ o), matching false ks x.pairs (a + 1) c x.are, (λ i. is_pair (e i) (f i)) ∙ g, q);
    }

-- a brace that is no body's, since no `)` stands in front of it
unclosed_opens : (s p : Bool) → p ≡ false → opener (s && p) OpenBrace ≡ true
unclosed_opens true true e = absurd (true≢false e)
unclosed_opens true false e = refl
unclosed_opens false p e = refl

pub braces : (s : Bool) → (ks : List Kind) → (a c b : ℕ) → is_close_paren (kind_at ks (a - 1)) ≡ false → kind_at ks a ≡ OpenBrace → Matched ks (a + 1) c
    → kind_at ks c ≡ CloseBrace → b ≡ c + 1 → Calm s ks a b
braces s ks a c b u e x f q =
    record {
      pairs = Pair_then x.pairs No_token;
      are = (
        c,
        ap (opener (s && is_close_paren (kind_at ks (a - 1)))) e ∙ unclosed_opens s (is_close_paren (kind_at ks (a - 1))) u,
        x.are,
        λ i. is_pair (e i) (f i),
        q,
      );
    }

loosened : (ks : List Kind) → (ps : Pairs) → (a b : ℕ) → AreCalm true ks ps a b → AreCalm false ks ps a b
loosened ks No_token a b h = h
loosened ks (Token_then ps) a b h = (plain_loose (kind_at ks a) h.0, loosened ks ps (a + 1) b h.1)
loosened ks (Pair_then inner ps) a b h =
    (h.0, opener_any (is_close_paren (kind_at ks (a - 1))) (kind_at ks a) h.1, h.2, h.3, loosened ks ps (h.0 + 1) b h.4)

pub loosen : (ks : List Kind) → (a b : ℕ) → Calm true ks a b → Calm false ks a b
loosen ks a b x = record { pairs = x.pairs; are = loosened ks x.pairs a b x.are }

-- tests that no bracket, no `;` and no `=` passes
pub plain_by : (f : Kind → Bool) → (s : Bool) → f OpenParen ≡ false → f CloseParen ≡ false → f OpenBracket ≡ false → f CloseBracket ≡ false
    → f OpenBrace ≡ false → f CloseBrace ≡ false → f Semicolon ≡ false → f Equals ≡ false → (k : Kind) → f k ≡ true → plain s k ≡ true
plain_by f s p1 p2 p3 p4 p5 p6 p7 p8 OpenParen h = absurd (true≢false (sym h ∙ p1))
plain_by f s p1 p2 p3 p4 p5 p6 p7 p8 CloseParen h = absurd (true≢false (sym h ∙ p2))
plain_by f s p1 p2 p3 p4 p5 p6 p7 p8 OpenBracket h = absurd (true≢false (sym h ∙ p3))
plain_by f s p1 p2 p3 p4 p5 p6 p7 p8 CloseBracket h = absurd (true≢false (sym h ∙ p4))
plain_by f s p1 p2 p3 p4 p5 p6 p7 p8 OpenBrace h = absurd (true≢false (sym h ∙ p5))
plain_by f s p1 p2 p3 p4 p5 p6 p7 p8 CloseBrace h = absurd (true≢false (sym h ∙ p6))
plain_by f s p1 p2 p3 p4 p5 p6 p7 p8 Semicolon h = absurd (true≢false (sym h ∙ p7))
plain_by f s p1 p2 p3 p4 p5 p6 p7 p8 Equals h = absurd (true≢false (sym h ∙ p8))
plain_by f s p1 p2 p3 p4 p5 p6 p7 p8 _ h = refl

pub word_plain : (s : Bool) → (k : Kind) → is_word k ≡ true → plain s k ≡ true
word_plain s k h = plain_by is_word s refl refl refl refl refl refl refl refl k h

size_plain : (s : Bool) → (k : Kind) → is_size k ≡ true → plain s k ≡ true
size_plain s k h = plain_by is_size s refl refl refl refl refl refl refl refl k h

prefix_plain : (s : Bool) → (k : Kind) → is_prefix k ≡ true → plain s k ≡ true
prefix_plain s k h = plain_by is_prefix s refl refl refl refl refl refl refl refl k h

member_plain : (s : Bool) → (k : Kind) → is_member k ≡ true → plain s k ≡ true
member_plain s k h = plain_by is_member s refl refl refl refl refl refl refl refl k h

dot_plain : (s : Bool) → (k : Kind) → is_dot k ≡ true → plain s k ≡ true
dot_plain s k h = plain_by is_dot s refl refl refl refl refl refl refl refl k h

typedef_plain : (s : Bool) → (k : Kind) → is_typedef k ≡ true → plain s k ≡ true
typedef_plain s k h = plain_by is_typedef s refl refl refl refl refl refl refl refl k h

named_plain : (s : Bool) → (n : Named) → (k : Kind) → may_name n k ≡ true → plain s k ≡ true
named_plain s Never k h = absurd (true≢false (sym h))
named_plain s Plainly k h = plain_by is_identifier s refl refl refl refl refl refl refl refl k h
named_plain s Freely k h = word_plain s k h

equals_plain : (k : Kind) → is_equals k ≡ true → plain false k ≡ true
equals_plain Equals h = refl
equals_plain _ h = absurd (true≢false (sym h))

-- the operators between two operands
operator_plain : (k : Kind) → 1 ≤ level_of k → level_of k ≤ 13 → plain false k ≡ true
operator_plain OpenParen h g = absurd (omega (arith, g))
operator_plain OpenBracket h g = absurd (omega (arith, g))
operator_plain CloseParen h g = absurd (omega (arith, h))
operator_plain CloseBracket h g = absurd (omega (arith, h))
operator_plain OpenBrace h g = absurd (omega (arith, h))
operator_plain CloseBrace h g = absurd (omega (arith, h))
operator_plain Semicolon h g = absurd (omega (arith, h))
operator_plain Equals h g = refl
operator_plain _ h g = refl

leveled_plain : (k : Kind) → (l : ℕ) → level_of k ≡ l → 1 ≤ l → l ≤ 13 → plain false k ≡ true
leveled_plain k l e h g = operator_plain k (omega (arith, e, h)) (omega (arith, e, g))

and_left : (b c : Bool) → (b && c) ≡ true → b ≡ true
and_left true c h = refl
and_left false c h = absurd (true≢false (sym h))

or_by : {A : Type 0} → (b c : Bool) → (b || c) ≡ true → (b ≡ true → A) → (c ≡ true → A) → A
or_by true c h f g = f refl
or_by false c h f g = g h

atomic_plain : (s : Bool) → (ks : List Kind) → (a : ℕ) → atomic_at ks a ≡ true → plain s (kind_at ks a) ≡ true
unfolding atomic_at
atomic_plain s ks a h =
    plain_by is_atomic s refl refl refl refl refl refl refl refl (kind_at ks a)
    (and_left (is_atomic (kind_at ks a)) (not (is_opening (kind_at ks (a + 1)))) h)

specifies_plain : (s : Bool) → (ks : List Kind) → (a : ℕ) → specifies_at ks a ≡ true → plain s (kind_at ks a) ≡ true
unfolding specifies_at
specifies_plain s ks a h =
    or_by (is_specifying (kind_at ks a)) (atomic_at ks a) h
    (plain_by is_specifying s refl refl refl refl refl refl refl refl (kind_at ks a)) (atomic_plain s ks a)

qualifies_plain : (s : Bool) → (ks : List Kind) → (a : ℕ) → qualifies_at ks a ≡ true → plain s (kind_at ks a) ≡ true
unfolding qualifies_at
qualifies_plain s ks a h =
    or_by (is_qualifier (kind_at ks a)) (atomic_at ks a) h
    (plain_by is_qualifier s refl refl refl refl refl refl refl refl (kind_at ks a)) (atomic_plain s ks a)

-- where a name is hidden
hidden_same : (f : Kind → Bool) → ((n : ℕ) → f (TypeName n) ≡ f Identifier) → (w : ℕ) → (k : Kind) → f (hidden_one w k) ≡ f k
hidden_same f i w (TypeName n) = by (n == w)
  where
    by : (b : Bool) → f (if b then Identifier else TypeName n) ≡ f (TypeName n)
    by true = sym (i n)
    by false = refl
hidden_same f i w _ = refl

hidden_at : (f : Kind → Bool) → ((n : ℕ) → f (TypeName n) ≡ f Identifier) → (w : ℕ) → (ks : List Kind) → (a : ℕ)
    → f (kind_at (map (hidden_one w) ks) a) ≡ f (kind_at ks a)
hidden_at f i w [] a = refl
hidden_at f i w (k ∷ ks) zero = hidden_same f i w k
hidden_at f i w (k ∷ ks) (suc a) = hidden_at f i w ks a

word_hidden : (f : Kind → Bool) → ((n : ℕ) → f (TypeName n) ≡ f Identifier) → (ks : List Kind) → (w a : ℕ)
    → f (kind_at (hide_word ks w) a) ≡ f (kind_at ks a)
unfolding hide_word
word_hidden f i ks w a = hidden_at f i w ks a

kind_hidden : (f : Kind → Bool) → ((n : ℕ) → f (TypeName n) ≡ f Identifier) → (ks : List Kind) → (k : Kind) → (a : ℕ)
    → f (kind_at (hide_kind ks k) a) ≡ f (kind_at ks a)
kind_hidden f i ks (TypeName w) a = word_hidden f i ks w a
kind_hidden f i ks _ a = refl

past_same : (f : Kind → Bool) → ((n : ℕ) → f (TypeName n) ≡ f Identifier) → (ks : List Kind) → (o : Option ℕ) → (a : ℕ)
    → f (kind_at (hide ks o) a) ≡ f (kind_at ks a)
past_same f i ks None a = refl
past_same f i ks (Some n) a = kind_hidden f i ks (kind_at ks n) a

behind_matched : (ks : List Kind) → (o : Option ℕ) → (ps : Pairs) → (a b : ℕ) → AreMatched (hide ks o) ps a b → AreMatched ks ps a b
behind_matched ks o No_token a b h = h
behind_matched ks o (Token_then ps) a b h =
    (sym (past_same (λ k. opens k || closes k) (λ n. refl) ks o a) ∙ h.0, behind_matched ks o ps (a + 1) b h.1)
behind_matched ks o (Pair_then inner ps) a b h = (
  h.0,
  sym (past_same opens (λ n. refl) ks o a) ∙ h.1,
  behind_matched ks o inner (a + 1) h.0 h.2,
  sym (past_same (λ k. is_pair k (kind_at ks h.0)) (λ n. refl) ks o a)
      ∙ sym (past_same (is_pair (kind_at (hide ks o) a)) (pair_blind (kind_at (hide ks o) a)) ks o h.0)
      ∙ h.3,
  behind_matched ks o ps (h.0 + 1) b h.4,
)

behind_one : (s : Bool) → (ks : List Kind) → (o : Option ℕ) → (ps : Pairs) → (a b : ℕ) → AreCalm s (hide ks o) ps a b → AreCalm s ks ps a b
behind_one s ks o No_token a b h = h
behind_one s ks o (Token_then ps) a b h =
    (sym (past_same (plain s) (λ n. refl) ks o a) ∙ h.0, behind_one s ks o ps (a + 1) b h.1)
behind_one s ks o (Pair_then inner ps) a b h = (
  h.0,
  ap (λ p. opener (s && p) (kind_at ks a)) (sym (past_same is_close_paren (λ n. refl) ks o (a - 1)))
      ∙ sym (past_same (opener (s && is_close_paren (kind_at (hide ks o) (a - 1)))) (λ n. refl) ks o a)
      ∙ h.1,
  behind_matched ks o inner (a + 1) h.0 h.2,
  sym (past_same (λ k. is_pair k (kind_at ks h.0)) (λ n. refl) ks o a)
      ∙ sym (past_same (is_pair (kind_at (hide ks o) a)) (pair_blind (kind_at (hide ks o) a)) ks o h.0)
      ∙ h.3,
  behind_one s ks o ps (h.0 + 1) b h.4,
)

behind_name : (s : Bool) → (ks : List Kind) → (o : Option ℕ) → (a b : ℕ) → Calm s (hide ks o) a b → Calm s ks a b
behind_name s ks o a b x = record { pairs = x.pairs; are = behind_one s ks o x.pairs a b x.are }

-- lists without trees
pub texts_calm : (ks : List Kind) → (ns : List ℕ) → (a b : ℕ) → HoldTexts ks ns a b → Calm false ks a b
texts_calm ks [] a b h = nothing false ks a b h.0
texts_calm ks (n ∷ ns) a b h = join false ks a (a + 1) b (mark false ks a (a + 1) Text h.1 refl refl) (texts_calm ks ns (a + 1) b h.2)

pub comma_calm : (ks : List Kind) → (t : Option ℕ) → (a b : ℕ) → HoldsComma ks t a b → Calm false ks a b
comma_calm ks None a b h = nothing false ks a b h
comma_calm ks (Some o) a b h = mark false ks a b Comma h.1 refl h.2

qualifiers_calm : (ks : List Kind) → (ns : List ℕ) → (a b : ℕ) → HoldQualifiers ks ns a b → Calm true ks a b
qualifiers_calm ks [] a b h = nothing true ks a b h
qualifiers_calm ks (n ∷ ns) a b h =
    join true ks a (a + 1) b (token true ks a (a + 1) (qualifies_plain true ks a h.1) refl) (qualifiers_calm ks ns (a + 1) b h.2)

names_calm : (ks : List Kind) → (ns : List (ℕ × ℕ)) → (a b : ℕ) → HoldNames ks ns a b → Calm true ks a b
names_calm ks [] a b h = nothing true ks a b h
names_calm ks (p ∷ ps) a b h =
    join true ks a (a + 1) b (mark true ks a (a + 1) Comma h.1 refl refl)
    (join true ks (a + 1) (a + 1 + 1) b (mark true ks (a + 1) (a + 1 + 1) Identifier h.3 refl refl) (names_calm ks ps (a + 1 + 1) b h.4))

pub tag_calm : (ks : List Kind) → (g : Option ℕ) → (a b : ℕ) → HoldsTag ks g a b → Calm true ks a b
tag_calm ks None a b h = nothing true ks a b h
tag_calm ks (Some n) a b h = token true ks a b (word_plain true (kind_at ks a) h.1) h.2

word_paren_not : (k : Kind) → is_word k ≡ true → is_close_paren k ≡ false
word_paren_not CloseParen h = absurd (true≢false (sym h))
word_paren_not _ h = refl

front_of : (a : ℕ) → (a + 1) - 1 ≡ a
front_of a = omega arith

-- in front of the `{` of members stands their keyword, or their tag
no_paren : (ks : List Kind) → (g : Option ℕ) → (a o : ℕ) → is_close_paren (kind_at ks a) ≡ false → HoldsTag ks g (a + 1) o
    → is_close_paren (kind_at ks (o - 1)) ≡ false
no_paren ks None a o k h = ap (λ i. is_close_paren (kind_at ks i)) (ap (λ i. i - 1) h ∙ front_of a) ∙ k
no_paren ks (Some n) a o k h =
    ap (λ i. is_close_paren (kind_at ks i)) (ap (λ i. i - 1) h.2 ∙ front_of (a + 1)) ∙ word_paren_not (kind_at ks (a + 1)) h.1

-- the name of a declarator that has one
pub name_plain : (y : Bool) → (k : Kind) → names_it y k ≡ true → plain true k ≡ true
name_plain true k h = plain_by is_identifier true refl refl refl refl refl refl refl refl k h
name_plain false k h = word_plain true k h

tagging_plain : (s : Bool) → (k : Kind) → is_tagging k ≡ true → plain s k ≡ true
tagging_plain s k h = plain_by is_tagging s refl refl refl refl refl refl refl refl k h

pub pointers_calm : (ks : List Kind) → (ps : List (ℕ × List ℕ)) → (a b : ℕ) → HoldPointers ks ps a b → Calm true ks a b
pointers_calm ks [] a b h = nothing true ks a b h
pointers_calm ks (p ∷ ps) a b h =
    join true ks a (a + 1) b (mark true ks a (a + 1) Star h.2 refl refl)
    (join true ks (a + 1) h.0 b (qualifiers_calm ks p.1 (a + 1) h.0 h.3) (pointers_calm ks ps h.0 b h.4))

mutual
  pub tree_calm : (t : Tree) → (ks : List Kind) → (a b : ℕ) → Holds ks t a b → Calm false ks a b
  tree_calm (Name_of n) ks a b h = mark false ks a b Identifier h.1 refl h.2
  tree_calm (Constant_of n) ks a b h = mark false ks a b Constant h.1 refl h.2
  tree_calm (Text_of ns) ks a b h = texts_calm ks ns a b h.1
  tree_calm (Paren_of o t c) ks a b h = pair false ks a c b OpenParen CloseParen h.1 refl (tree_calm t ks (a + 1) c h.3) h.4 refl h.5
  tree_calm (Postfix_of f bs) ks a b h = join false ks a h.0 b (tree_calm f ks a h.0 h.3) (behinds_calm bs ks 16 h.0 b h.4)
  tree_calm (Unary_of fs t) ks a b h = join false ks a h.0 b (fronts_calm fs ks 15 a h.0 h.2) (tree_calm t ks h.0 b h.4)
  tree_calm (Binary_of f bs) ks a b h = join false ks a h.0 b (tree_calm f ks a h.0 h.4) (behinds_calm bs ks _ h.0 b h.5)
  tree_calm (Conditional_of fs t) ks a b h = join false ks a h.0 b (fronts_calm fs ks 3 a h.0 h.2) (tree_calm t ks h.0 b h.4)
  tree_calm (Assign_of fs t) ks a b h = join false ks a h.0 b (fronts_calm fs ks 2 a h.0 h.2) (tree_calm t ks h.0 b h.4)
  tree_calm (Of_type k o t c) ks a b h =
      join false ks a o b (token false ks a o (size_plain false (kind_at ks a) h.1) h.2)
      (pair false ks o c b OpenParen CloseParen h.3 refl (loosen ks (o + 1) c (naming_calm t ks false (o + 1) c h.4)) h.5 refl h.6)
  tree_calm (Compound_of o t c i) ks a b h =
      join false ks a (c + 1) b
      (pair false ks a c (c + 1) OpenParen CloseParen h.1 refl (loosen ks (a + 1) c (naming_calm t ks false (a + 1) c h.2)) h.3 refl refl)
      (braces_calm i ks (c + 1) b h.4)
  tree_calm (Generic_of k o t gs c) ks a b h =
      join false ks a o b (mark false ks a o Generic h.2 refl h.3)
      (pair false ks o c b OpenParen CloseParen h.4 refl
      (join false ks (o + 1) h.0 c (tree_calm t ks (o + 1) h.0 h.6) (associations_calm gs ks h.0 c h.8)) h.9 refl h.10)
  tree_calm (Offset_of k o t m n bs c) ks a b h =
      join false ks a o b (mark false ks a o OffsetOf h.1 refl h.2)
      (pair false ks o c b OpenParen CloseParen h.3 refl
      (join false ks (o + 1) m c (loosen ks (o + 1) m (naming_calm t ks false (o + 1) m h.4))
      (join false ks m n c (mark false ks m n Comma h.5 refl h.6)
      (join false ks n (n + 1) c (token false ks n (n + 1) (word_plain false (kind_at ks n) h.7) refl) (behinds_calm bs ks 16 (n + 1) c h.9))))
      h.10 refl h.11)

  behind_calm : (x : Behind) → (ks : List Kind) → (l a b : ℕ) → HoldsBehind ks l x a b → Calm false ks a b
  behind_calm (Operand_of o t) ks l a b h =
      join false ks a (a + 1) b (token false ks a (a + 1) (leveled_plain (kind_at ks a) l h.2 h.0.0 h.0.1) refl) (tree_calm t ks (a + 1) b h.4)
  behind_calm (Index_of o t c) ks l a b h = pair false ks a c b OpenBracket CloseBracket h.2 refl (tree_calm t ks (a + 1) c h.4) h.5 refl h.6
  behind_calm (Call_of o c) ks l a b h = pair false ks a c b OpenParen CloseParen h.2 refl (nothing false ks (a + 1) c h.3) h.4 refl h.5
  behind_calm (Call_with_of o t bs c) ks l a b h =
      pair false ks a c b OpenParen CloseParen h.3 refl
      (join false ks (a + 1) h.0 c (tree_calm t ks (a + 1) h.0 h.5) (behinds_calm bs ks 1 h.0 c h.6)) h.7 refl h.8
  behind_calm (Member_of o n) ks l a b h =
      join false ks a n b (token false ks a n (member_plain false (kind_at ks a) h.2) h.3)
      (token false ks n b (word_plain false (kind_at ks n) h.4) h.5)
  behind_calm (Step_of o) ks l a b h = mark false ks a b kind.Step h.2 refl h.3

  behinds_calm : (xs : Behinds) → (ks : List Kind) → (l a b : ℕ) → HoldBehinds ks l xs a b → Calm false ks a b
  behinds_calm None_behind ks l a b h = nothing false ks a b h
  behinds_calm (Behind_then x xs) ks l a b h = join false ks a h.0 b (behind_calm x ks l a h.0 h.1) (behinds_calm xs ks l h.0 b h.2)

  front_calm : (x : Front) → (ks : List Kind) → (l a b : ℕ) → HoldsFront ks l x a b → Calm false ks a b
  front_calm (Operator_of o) ks l a b h = token false ks a b (prefix_plain false (kind_at ks a) h.2) h.3
  front_calm (Cast_of o t c) ks l a b h =
      pair false ks a c b OpenParen CloseParen h.2 refl (loosen ks (a + 1) c (naming_calm t ks false (a + 1) c h.4)) h.5 refl h.6
  front_calm (Choice_of t q e c) ks l a b h =
      join false ks a q b (tree_calm t ks a q h.2)
      (join false ks q (q + 1) b (mark false ks q (q + 1) Question h.3 refl refl)
      (join false ks (q + 1) c b (tree_calm e ks (q + 1) c h.5) (mark false ks c b Colon h.6 refl h.7)))
  front_calm (Left_of t o) ks l a b h =
      join false ks a o b (tree_calm t ks a o h.2) (token false ks o b (leveled_plain (kind_at ks o) 2 h.3 (omega arith) (omega arith)) h.4)

  fronts_calm : (xs : Fronts) → (ks : List Kind) → (l a b : ℕ) → HoldFronts ks l xs a b → Calm false ks a b
  fronts_calm None_before ks l a b h = nothing false ks a b h
  fronts_calm (Front_then x xs) ks l a b h = join false ks a h.0 b (front_calm x ks l a h.0 h.1) (fronts_calm xs ks l h.0 b h.2)

  braces_calm : (x : Braces) → (ks : List Kind) → (a b : ℕ) → HoldBraces ks x a b → Calm false ks a b
  braces_calm (Braces_of o p ps t c) ks a b h =
      pair false ks a c b OpenBrace CloseBrace h.3 refl
      (join false ks (a + 1) h.0 c (piece_calm p ks (a + 1) h.0 h.4)
      (join false ks h.0 h.1 c (pieces_calm ps ks h.0 h.1 h.5) (comma_calm ks t h.1 c h.6))) h.7 refl h.8

  pub initial_calm : (x : Initial) → (ks : List Kind) → (a b : ℕ) → HoldsInitial ks x a b → Calm false ks a b
  initial_calm (Value_of t) ks a b h = tree_calm t ks a b h.1
  initial_calm (List_of i) ks a b h = braces_calm i ks a b h

  piece_calm : (x : Piece) → (ks : List Kind) → (a b : ℕ) → HoldsPiece ks x a b → Calm false ks a b
  piece_calm (Plain_of i) ks a b h = initial_calm i ks a b h
  piece_calm (Designated_of d ds e i) ks a b h =
      join false ks a h.0 b (designator_calm d ks a h.0 h.1)
      (join false ks h.0 e b (designators_calm ds ks h.0 e h.2)
      (join false ks e (e + 1) b (token false ks e (e + 1) (equals_plain (kind_at ks e) h.3) refl) (initial_calm i ks (e + 1) b h.4)))

  pieces_calm : (xs : Pieces) → (ks : List Kind) → (a b : ℕ) → HoldPieces ks xs a b → Calm false ks a b
  pieces_calm No_pieces ks a b h = nothing false ks a b h
  pieces_calm (Piece_then o p ps) ks a b h =
      join false ks a (a + 1) b (mark false ks a (a + 1) Comma h.2 refl refl)
      (join false ks (a + 1) h.0 b (piece_calm p ks (a + 1) h.0 h.3) (pieces_calm ps ks h.0 b h.4))

  designator_calm : (x : Designator) → (ks : List Kind) → (a b : ℕ) → HoldsDesignator ks x a b → Calm false ks a b
  designator_calm (Element_of o t c) ks a b h = pair false ks a c b OpenBracket CloseBracket h.1 refl (tree_calm t ks (a + 1) c h.3) h.4 refl h.5
  designator_calm (Field_of o n) ks a b h =
      join false ks a n b (token false ks a n (dot_plain false (kind_at ks a) h.1) h.2)
      (token false ks n b (word_plain false (kind_at ks n) h.3) h.4)

  designators_calm : (xs : Designators) → (ks : List Kind) → (a b : ℕ) → HoldDesignators ks xs a b → Calm false ks a b
  designators_calm No_designators ks a b h = nothing false ks a b h
  designators_calm (Designator_then d ds) ks a b h =
      join false ks a h.0 b (designator_calm d ks a h.0 h.1) (designators_calm ds ks h.0 b h.2)

  association_calm : (x : Association) → (ks : List Kind) → (a b : ℕ) → HoldsAssociation ks x a b → Calm false ks a b
  association_calm (Typed_of t c e) ks a b h =
      join false ks a c b (loosen ks a c (naming_calm t ks false a c h.0))
      (join false ks c (c + 1) b (mark false ks c (c + 1) Colon h.1 refl refl) (tree_calm e ks (c + 1) b h.3))
  association_calm (Default_of d c e) ks a b h =
      join false ks a c b (mark false ks a c Default h.1 refl h.2)
      (join false ks c (c + 1) b (mark false ks c (c + 1) Colon h.3 refl refl) (tree_calm e ks (c + 1) b h.5))

  associations_calm : (xs : Associations) → (ks : List Kind) → (a b : ℕ) → HoldAssociations ks xs a b → Calm false ks a b
  associations_calm No_associations ks a b h = nothing false ks a b h
  associations_calm (Association_then o x xs) ks a b h =
      join false ks a (a + 1) b (mark false ks a (a + 1) Comma h.2 refl refl)
      (join false ks (a + 1) h.0 b (association_calm x ks (a + 1) h.0 h.3) (associations_calm xs ks h.0 b h.4))

  pub specifying_calm : (x : Specifying) → (ks : List Kind) → (y : Bool) → (a b : ℕ) → HoldSpecifying ks y x a b → Calm true ks a b
  specifying_calm (Word_of n) ks y a b h = token true ks a b (specifies_plain true ks a h.1) h.2
  specifying_calm (Typedef_of n) ks y a b h = token true ks a b (typedef_plain true (kind_at ks a) h.2) h.3
  specifying_calm (Tag_of k n) ks y a b h =
      join true ks a n b (token true ks a n (tagging_plain true (kind_at ks a) h.1) h.2) (token true ks n b (word_plain true (kind_at ks n) h.3) h.4)
  specifying_calm (Atomic_of k o t c) ks y a b h =
      join true ks a o b (mark true ks a o Atomic h.1 refl h.2)
      (pair true ks o c b OpenParen CloseParen h.3 refl (loosen ks (o + 1) c (naming_calm t ks false (o + 1) c h.4)) h.5 refl h.6)
  specifying_calm (Aligned_as_of k o t c) ks y a b h =
      join true ks a o b (mark true ks a o Align h.1 refl h.2)
      (pair true ks o c b OpenParen CloseParen h.3 refl (loosen ks (o + 1) c (naming_calm t ks false (o + 1) c h.4)) h.5 refl h.6)
  specifying_calm (Aligned_of k o t c) ks y a b h =
      join true ks a o b (mark true ks a o Align h.1 refl h.2)
      (pair true ks o c b OpenParen CloseParen h.3 refl (tree_calm t ks (o + 1) c h.5) h.6 refl h.7)
  specifying_calm (Members_of k g o ms c) ks y a b h =
      join true ks a (a + 1) b (mark true ks a (a + 1) Tag h.1 refl refl)
      (join true ks (a + 1) o b (tag_calm ks g (a + 1) o h.2)
      (braces true ks o c b (no_paren ks g a o (ap is_close_paren h.1) h.2) h.3 (members_matched ms ks (o + 1) c h.5) h.6 h.7))
  specifying_calm (Enumerators_of k g o e es t c) ks y a b h =
      join true ks a (a + 1) b (mark true ks a (a + 1) Enum h.3 refl refl)
      (join true ks (a + 1) o b (tag_calm ks g (a + 1) o h.4)
      (braces true ks o c b (no_paren ks g a o (ap is_close_paren h.3) h.4) h.5
      (matched false ks (o + 1) c
      (join false ks (o + 1) h.0 c (enumerator_calm e ks (o + 1) h.0 h.6)
      (join false ks h.0 h.1 c (enumerators_calm es ks h.0 h.1 h.7) (comma_calm ks t h.1 c h.8)))) h.9 h.10))

  pub enumerator_calm : (e : Enumerator) → (ks : List Kind) → (a b : ℕ) → HoldsEnumerator ks e a b → Calm false ks a b
  enumerator_calm (Counted_of n) ks a b h = token false ks a b (word_plain false (kind_at ks a) h.1) h.2
  enumerator_calm (Given_of n q t) ks a b h =
      join false ks a q b (token false ks a q (word_plain false (kind_at ks a) h.1) h.2)
      (join false ks q (q + 1) b (token false ks q (q + 1) (equals_plain (kind_at ks q) h.3) refl) (tree_calm t ks (q + 1) b h.5))

  pub enumerators_calm : (es : Enumerators) → (ks : List Kind) → (a b : ℕ) → HoldEnumerators ks es a b → Calm false ks a b
  enumerators_calm No_enumerators ks a b h = nothing false ks a b h
  enumerators_calm (Enumerator_then o e es) ks a b h =
      join false ks a (a + 1) b (mark false ks a (a + 1) Comma h.2 refl refl)
      (join false ks (a + 1) h.0 b (enumerator_calm e ks (a + 1) h.0 h.3) (enumerators_calm es ks h.0 b h.4))

  member_matched : (x : Member) → (ks : List Kind) → (a b : ℕ) → HoldsMember ks x a b → Matched ks a b
  member_matched (Bare_of ss e) ks a b h =
      chain ks a e b (matched true ks a e (specifyings_calm ss ks false a e h.1)) (semicolon_matched ks e b h.3 h.4)
  member_matched (Fields_of ss f fs e) ks a b h =
      chain ks a h.0 b (matched true ks a h.0 (specifyings_calm ss ks false a h.0 h.3))
      (chain ks h.0 h.1 b (matched false ks h.0 h.1 (field_calm f ks _ h.0 h.1 h.5))
      (chain ks h.1 e b (matched false ks h.1 e (fields_calm fs ks h.1 e h.6)) (semicolon_matched ks e b h.7 h.8)))
  member_matched (Asserted_of (Assertion_of k o t c ns p e)) ks a b h =
      chain ks a o b (matched false ks a o (mark false ks a o Assert h.1 refl h.2))
      (chain ks o e b
      (matched false ks o e
      (pair false ks o p e OpenParen CloseParen h.3 refl
      (join false ks (o + 1) c p (tree_calm t ks (o + 1) c h.5)
      (join false ks c (c + 1) p (mark false ks c (c + 1) Comma h.6 refl refl) (texts_calm ks ns (c + 1) p h.8))) h.9 refl h.10))
      (semicolon_matched ks e b h.11 h.12))

  pub members_matched : (xs : Members) → (ks : List Kind) → (a b : ℕ) → HoldMembers ks xs a b → Matched ks a b
  members_matched No_members ks a b h = record { pairs = No_token; are = h }
  members_matched (Member_then x xs) ks a b h = chain ks a h.0 b (member_matched x ks a h.0 h.1) (members_matched xs ks h.0 b h.2)

  field_calm : (f : Field) → (ks : List Kind) → (y : Bool) → (a b : ℕ) → HoldsField ks y f a b → Calm false ks a b
  field_calm (Declared_of d) ks y a b h = loosen ks a b (declarator_calm d ks y a b h)
  field_calm (Bits_of d c w) ks y a b h =
      join false ks a c b (loosen ks a c (declarator_calm d ks y a c h.0))
      (join false ks c (c + 1) b (mark false ks c (c + 1) Colon h.1 refl refl) (tree_calm w ks (c + 1) b h.3))
  field_calm (Padding_of c w) ks y a b h = join false ks a (a + 1) b (mark false ks a (a + 1) Colon h.1 refl refl) (tree_calm w ks (a + 1) b h.3)

  fields_calm : (fs : Fields) → (ks : List Kind) → (a b : ℕ) → HoldFields ks fs a b → Calm false ks a b
  fields_calm No_fields ks a b h = nothing false ks a b h
  fields_calm (Field_then o f fs) ks a b h =
      join false ks a (a + 1) b (mark false ks a (a + 1) Comma h.2 refl refl)
      (join false ks (a + 1) h.0 b (field_calm f ks false (a + 1) h.0 h.3) (fields_calm fs ks h.0 b h.4))

  pub declarator_calm : (d : Declaring) → (ks : List Kind) → (y : Bool) → (a b : ℕ) → HoldsDeclarator ks y d a b → Calm true ks a b
  declarator_calm (Declaring_of ps g ds) ks y a b h =
      join true ks a h.0 b (pointers_calm ks ps a h.0 h.2)
      (join true ks h.0 h.1 b (direct_calm g ks (plain_behind y ps) h.0 h.1 h.3) (derivings_calm ds ks h.1 b h.4))

  direct_calm : (g : Grouping) → (ks : List Kind) → (y : Bool) → (a m : ℕ) → HoldsDirect ks y g a m → Calm true ks a m
  direct_calm No_group ks y a m h = absurd h
  direct_calm (Named_of n) ks y a m h = token true ks a m (name_plain y (kind_at ks a) h.1) h.2
  direct_calm (Group_of o d c) ks y a m h =
      pair true ks a c m OpenParen CloseParen h.1 refl (loosen ks (a + 1) c (declarator_calm d ks false (a + 1) c h.2)) h.3 refl h.4

  pub specifyings_calm : (xs : Specifyings) → (ks : List Kind) → (y : Bool) → (a b : ℕ) → HoldSpecifyings ks y xs a b → Calm true ks a b
  specifyings_calm No_specifiers ks y a b h = nothing true ks a b h
  specifyings_calm (Specifier_then x xs) ks y a b h =
      join true ks a h.0 b (specifying_calm x ks y a h.0 h.1) (specifyings_calm xs ks _ h.0 b h.2)

  pub naming_calm : (t : Naming) → (ks : List Kind) → (y : Bool) → (a b : ℕ) → HoldsNaming ks y t a b → Calm true ks a b
  naming_calm (Type_of ss d) ks y a b h =
      join true ks a h.0 b (specifyings_calm ss ks false a h.0 h.2) (declaring_calm d ks _ h.0 b h.3)

  declaring_calm : (d : Declaring) → (ks : List Kind) → (n : Named) → (a b : ℕ) → HoldsDeclaring ks n d a b → Calm true ks a b
  declaring_calm (Declaring_of ps g ds) ks n a b h =
      join true ks a h.0 b (pointers_calm ks ps a h.0 h.2)
      (join true ks h.0 h.1 b (grouping_calm g ks _ h.0 h.1 h.3) (derivings_calm ds ks h.1 b h.4))

  grouping_calm : (g : Grouping) → (ks : List Kind) → (n : Named) → (a b : ℕ) → HoldsGrouping ks n g a b → Calm true ks a b
  grouping_calm No_group ks n a b h = nothing true ks a b h
  grouping_calm (Named_of i) ks n a b h = token true ks a b (named_plain true n (kind_at ks a) h.1) h.2
  grouping_calm (Group_of o d c) ks n a b h =
      pair true ks a c b OpenParen CloseParen h.1 refl (loosen ks (a + 1) c (declaring_calm d ks _ (a + 1) c h.3)) h.4 refl h.5

  deriving_calm : (d : Deriving) → (ks : List Kind) → (a b : ℕ) → HoldsDeriving ks d a b → Calm true ks a b
  deriving_calm (Array_of o x c) ks a b h = pair true ks a c b OpenBracket CloseBracket h.1 refl (bound_calm x ks (a + 1) c h.2) h.3 refl h.4
  deriving_calm (Function_of o ps c) ks a b h =
      pair true ks a c b OpenParen CloseParen h.1 refl (loosen ks (a + 1) c (parameters_calm ps ks (a + 1) c h.2)) h.3 refl h.4

  pub derivings_calm : (ds : Derivings) → (ks : List Kind) → (a b : ℕ) → HoldDerivings ks ds a b → Calm true ks a b
  derivings_calm No_derivings ks a b h = nothing true ks a b h
  derivings_calm (Deriving_then d ds) ks a b h = join true ks a h.0 b (deriving_calm d ks a h.0 h.1) (derivings_calm ds ks h.0 b h.2)

  parameters_calm : (p : Parameters) → (ks : List Kind) → (a b : ℕ) → HoldParameters ks p a b → Calm true ks a b
  parameters_calm No_parameters ks a b h = nothing true ks a b h
  parameters_calm (Fixed_of p ps) ks a b h =
      join true ks a h.0 b (naming_calm p ks true a h.0 h.1)
      (behind_name true ks (name_by p) h.0 b (row_calm ps (past ks p) h.0 b h.2))
  parameters_calm (Variadic_of p ps o d) ks a b h =
      join true ks a h.0 b (naming_calm p ks true a h.0 h.1)
      (join true ks h.0 o b (behind_name true ks (name_by p) h.0 o (row_calm ps (past ks p) h.0 o h.2))
      (join true ks o d b (mark true ks o d Comma h.3 refl h.4) (mark true ks d b Ellipsis h.5 refl h.6)))
  parameters_calm (Names_of n ns) ks a b h =
      join true ks a (a + 1) b (mark true ks a (a + 1) Identifier h.1 refl refl) (names_calm ks ns (a + 1) b h.2)

  row_calm : (ps : Row) → (ks : List Kind) → (a b : ℕ) → HoldRow ks ps a b → Calm true ks a b
  row_calm No_more ks a b h = nothing true ks a b h
  row_calm (Parameter_then o p ps) ks a b h =
      join true ks a (a + 1) b (mark true ks a (a + 1) Comma h.2 refl refl)
      (join true ks (a + 1) h.0 b (naming_calm p ks true (a + 1) h.0 h.3)
      (behind_name true ks (name_by p) h.0 b (row_calm ps (past ks p) h.0 b h.4)))

  bound_calm : (x : Bound) → (ks : List Kind) → (a b : ℕ) → HoldsBound ks x a b → Calm false ks a b
  bound_calm (Unsized_of ns) ks a b h = loosen ks a b (qualifiers_calm ks ns a b h)
  bound_calm (Sized_of ns t) ks a b h =
      join false ks a h.0 b (loosen ks a h.0 (qualifiers_calm ks ns a h.0 h.1)) (tree_calm t ks h.0 b h.3)
  bound_calm (Static_sized_of n ns t) ks a b h =
      join false ks a (a + 1) b (mark false ks a (a + 1) Static h.2 refl refl)
      (join false ks (a + 1) h.0 b (loosen ks (a + 1) h.0 (qualifiers_calm ks ns (a + 1) h.0 h.3)) (tree_calm t ks h.0 b h.5))
  bound_calm (Sized_static_of ns n t) ks a b h =
      join false ks a n b (loosen ks a n (qualifiers_calm ks ns a n h.1))
      (join false ks n (n + 1) b (mark false ks n (n + 1) Static h.2 refl refl) (tree_calm t ks (n + 1) b h.4))
  bound_calm (Any_size_of ns n) ks a b h =
      join false ks a n b (loosen ks a n (qualifiers_calm ks ns a n h.0)) (mark false ks n b Star h.1 refl h.2)
