-- Kinds told apart.
use Rattle.std.proofs.Common.{◌≡◌, refl, ap, sym, ◌∙◌, subst, ℕ, ◌<◌, List, arith, Bool, true, false, true≢false}
use Rattle.c_parser.specs.declared.kinds.Kind.{Kind}
use Rattle.c_parser.specs.declared.kinds.Kind.TheVariants.{Identifier, TypeName, TypeWord, Qualifier, Tag, AlignOf, Constant, Text, OpenParen, CloseParen, OpenBracket, CloseBracket, Member, Step, Ampersand, Star, Sign, Complement, SizeOf, Quotient, Shift, Relation, Equality, Caret, Bar, And, Or, Question, Colon, Assignment, Comma, OpenBrace, CloseBrace, Dot, Equals, Generic, OffsetOf, Default, Atomic, Static, Storage, End, Ellipsis, Typedef, Semicolon, Enum, Align, Assert}
use Rattle.c_parser.specs.Kinds.{kind_at, level_of, is_prefix, is_size, is_suffix, is_opening, starts_type, is_dot, is_equals, is_member, is_designating}
use Rattle.c_parser.specs.Reading.{Stops}

abbrev pub code_of : Kind → ℕ
code_of Identifier = 1
code_of (TypeName n) = 2
code_of Constant = 3
code_of Text = 4
code_of OpenParen = 5
code_of CloseParen = 6
code_of OpenBracket = 7
code_of CloseBracket = 8
code_of Member = 9
code_of Step = 10
code_of Ampersand = 11
code_of Star = 12
code_of Sign = 13
code_of Complement = 14
code_of SizeOf = 15
code_of Question = 16
code_of Colon = 17
code_of Assignment = 18
code_of Comma = 19
code_of TypeWord = 20
code_of Qualifier = 21
code_of Tag = 22
code_of AlignOf = 23
code_of OpenBrace = 24
code_of CloseBrace = 25
code_of Dot = 26
code_of Equals = 27
code_of Generic = 28
code_of OffsetOf = 29
code_of Default = 30
code_of Atomic = 31
code_of Static = 32
code_of Storage = 35
code_of End = 33
code_of Ellipsis = 34
code_of Typedef = 36
code_of Semicolon = 37
code_of Enum = 38
code_of Align = 39
code_of Assert = 40
code_of _ = 0

-- no two kinds of these are the same
pub clash : {A : Type 0} → (k a b : Kind) → k ≡ a → k ≡ b → (code_of a ≡ code_of b → ⊥) → A
clash k a b e f h = absurd (h (ap code_of (sym e ∙ f)))

-- a token of this kind has that level
pub leveled : (k a : Kind) → k ≡ a → level_of k ≡ level_of a
leveled k a e = ap level_of e

pub stops_at : (ks : List Kind) → (n at : ℕ) → (k : Kind) → kind_at ks at ≡ k → level_of k < n → Stops ks n at
stops_at ks n at k e h = subst (λ x. level_of x < n) (sym e) h

-- nothing goes on with a higher level than that of postfix operators, and nothing is between these and `*`
pub level_most : (k : Kind) → level_of k < 17
level_most Comma = omega arith
level_most Assignment = omega arith
level_most Equals = omega arith
level_most Question = omega arith
level_most Or = omega arith
level_most And = omega arith
level_most Bar = omega arith
level_most Caret = omega arith
level_most Ampersand = omega arith
level_most Equality = omega arith
level_most Relation = omega arith
level_most Shift = omega arith
level_most Sign = omega arith
level_most Star = omega arith
level_most Quotient = omega arith
level_most OpenBracket = omega arith
level_most OpenParen = omega arith
level_most Member = omega arith
level_most Dot = omega arith
level_most Step = omega arith
level_most _ = omega arith

pub level_gap : (k : Kind) → level_of k < 16 → level_of k < 14
level_gap Comma h = omega arith
level_gap Assignment h = omega arith
level_gap Equals h = omega arith
level_gap Question h = omega arith
level_gap Or h = omega arith
level_gap And h = omega arith
level_gap Bar h = omega arith
level_gap Caret h = omega arith
level_gap Ampersand h = omega arith
level_gap Equality h = omega arith
level_gap Relation h = omega arith
level_gap Shift h = omega arith
level_gap Sign h = omega arith
level_gap Star h = omega arith
level_gap Quotient h = omega arith
level_gap OpenBracket h = absurd (omega (arith, h))
level_gap OpenParen h = absurd (omega (arith, h))
level_gap Member h = absurd (omega (arith, h))
level_gap Dot h = absurd (omega (arith, h))
level_gap Step h = absurd (omega (arith, h))
level_gap _ h = omega arith

-- what isn't a bracket, a call or a member among postfix operators is `++` or `--`
pub is_step : (k : Kind) → level_of k ≡ 16 → (k ≡ OpenBracket → ⊥) → (k ≡ OpenParen → ⊥) → (is_member k ≡ true → ⊥) → k ≡ Step
is_step OpenBracket h x y z = absurd (x refl)
is_step OpenParen h x y z = absurd (y refl)
is_step Member h x y z = absurd (z refl)
is_step Dot h x y z = absurd (z refl)
is_step Step h x y z = refl
is_step Comma h x y z = absurd (omega (arith, h))
is_step Assignment h x y z = absurd (omega (arith, h))
is_step Equals h x y z = absurd (omega (arith, h))
is_step Question h x y z = absurd (omega (arith, h))
is_step Or h x y z = absurd (omega (arith, h))
is_step And h x y z = absurd (omega (arith, h))
is_step Bar h x y z = absurd (omega (arith, h))
is_step Caret h x y z = absurd (omega (arith, h))
is_step Ampersand h x y z = absurd (omega (arith, h))
is_step Equality h x y z = absurd (omega (arith, h))
is_step Relation h x y z = absurd (omega (arith, h))
is_step Shift h x y z = absurd (omega (arith, h))
is_step Sign h x y z = absurd (omega (arith, h))
is_step Star h x y z = absurd (omega (arith, h))
is_step Quotient h x y z = absurd (omega (arith, h))
is_step _ h x y z = absurd (omega (arith, h))

-- an expression that has the level of postfix expressions begins with no unary operator
pub no_prefix : {A : Type 0} → (k a : Kind) → k ≡ a → is_prefix a ≡ false → is_prefix k ≡ true → A
no_prefix k a e f t = absurd (true≢false (sym t ∙ ap is_prefix e ∙ f))

-- the only token of its level
pub not_question : (k : Kind) → level_of k < 4 → (k ≡ Question → ⊥) → level_of k < 3
not_question Question h not = absurd (not refl)
not_question Comma h not = omega arith
not_question Assignment h not = omega arith
not_question Equals h not = omega arith
not_question Or h not = absurd (omega (arith, h))
not_question And h not = absurd (omega (arith, h))
not_question Bar h not = absurd (omega (arith, h))
not_question Caret h not = absurd (omega (arith, h))
not_question Ampersand h not = absurd (omega (arith, h))
not_question Equality h not = absurd (omega (arith, h))
not_question Relation h not = absurd (omega (arith, h))
not_question Shift h not = absurd (omega (arith, h))
not_question Sign h not = absurd (omega (arith, h))
not_question Star h not = absurd (omega (arith, h))
not_question Quotient h not = absurd (omega (arith, h))
not_question OpenBracket h not = absurd (omega (arith, h))
not_question OpenParen h not = absurd (omega (arith, h))
not_question Member h not = absurd (omega (arith, h))
not_question Dot h not = absurd (omega (arith, h))
not_question Step h not = absurd (omega (arith, h))
not_question _ h not = omega arith

-- what an expression may begin with
abbrev pub is_start : Kind → Bool
is_start Identifier = true
is_start Constant = true
is_start Text = true
is_start OpenParen = true
is_start Step = true
is_start Ampersand = true
is_start Star = true
is_start Sign = true
is_start Complement = true
is_start SizeOf = true
is_start AlignOf = true
is_start Generic = true
is_start OffsetOf = true
is_start _ = false

pub prefix_starts : (k : Kind) → is_prefix k ≡ true → is_start k ≡ true
prefix_starts Step h = refl
prefix_starts Ampersand h = refl
prefix_starts Star h = refl
prefix_starts Sign h = refl
prefix_starts Complement h = refl
prefix_starts SizeOf h = refl
prefix_starts _ h = absurd (true≢false (sym h))

pub size_starts : (k : Kind) → is_size k ≡ true → is_start k ≡ true
size_starts SizeOf h = refl
size_starts AlignOf h = refl
size_starts _ h = absurd (true≢false (sym h))

-- an expression begins with no type name
pub no_type : (k : Kind) → is_start k ≡ true → starts_type k ≡ false
no_type TypeWord h = absurd (true≢false (sym h))
no_type Qualifier h = absurd (true≢false (sym h))
no_type Tag h = absurd (true≢false (sym h))
no_type Enum h = absurd (true≢false (sym h))
no_type Align h = absurd (true≢false (sym h))
no_type (TypeName n) h = absurd (true≢false (sym h))
no_type Atomic h = absurd (true≢false (sym h))
no_type Storage h = absurd (true≢false (sym h))
no_type Static h = absurd (true≢false (sym h))
no_type Typedef h = absurd (true≢false (sym h))
no_type _ h = refl

pub size_is : (k : Kind) → is_size k ≡ true → (k ≡ SizeOf → ⊥) → (k ≡ AlignOf → ⊥) → ⊥
size_is SizeOf h u v = u refl
size_is AlignOf h u v = v refl
size_is _ h u v = true≢false (sym h)

pub opening_is : (k : Kind) → is_opening k ≡ true → k ≡ OpenParen
opening_is OpenParen h = refl
opening_is _ h = absurd (true≢false (sym h))

pub suffix_level : (k : Kind) → is_suffix k ≡ true → level_of k ≡ 16
suffix_level OpenBracket h = refl
suffix_level OpenParen h = refl
suffix_level Member h = refl
suffix_level Dot h = refl
suffix_level Step h = refl
suffix_level _ h = absurd (true≢false (sym h))

pub level_suffix : (k : Kind) → level_of k ≡ 16 → is_suffix k ≡ true
level_suffix OpenBracket h = refl
level_suffix OpenParen h = refl
level_suffix Member h = refl
level_suffix Dot h = refl
level_suffix Step h = refl
level_suffix Comma h = absurd (omega (arith, h))
level_suffix Assignment h = absurd (omega (arith, h))
level_suffix Equals h = absurd (omega (arith, h))
level_suffix Question h = absurd (omega (arith, h))
level_suffix Or h = absurd (omega (arith, h))
level_suffix And h = absurd (omega (arith, h))
level_suffix Bar h = absurd (omega (arith, h))
level_suffix Caret h = absurd (omega (arith, h))
level_suffix Ampersand h = absurd (omega (arith, h))
level_suffix Equality h = absurd (omega (arith, h))
level_suffix Relation h = absurd (omega (arith, h))
level_suffix Shift h = absurd (omega (arith, h))
level_suffix Sign h = absurd (omega (arith, h))
level_suffix Star h = absurd (omega (arith, h))
level_suffix Quotient h = absurd (omega (arith, h))
level_suffix _ h = absurd (omega (arith, h))

pub start_designates_not : (k : Kind) → is_start k ≡ true → is_designating k ≡ false
start_designates_not OpenBracket h = absurd (true≢false (sym h))
start_designates_not Dot h = absurd (true≢false (sym h))
start_designates_not _ h = refl

pub dot_designates : (k : Kind) → is_dot k ≡ true → is_designating k ≡ true
dot_designates Dot h = refl
dot_designates _ h = absurd (true≢false (sym h))

pub equals_designates_not : (k : Kind) → is_equals k ≡ true → is_designating k ≡ false
equals_designates_not OpenBracket h = absurd (true≢false (sym h))
equals_designates_not Dot h = absurd (true≢false (sym h))
equals_designates_not _ h = refl

pub member_not : {A : Type 0} → (k a : Kind) → is_member k ≡ true → k ≡ a → is_member a ≡ false → A
member_not k a m e n = absurd (true≢false (sym m ∙ ap is_member e ∙ n))

pub member_level : (k : Kind) → is_member k ≡ true → level_of k ≡ 16
member_level Member h = refl
member_level Dot h = refl
member_level _ h = absurd (true≢false (sym h))

pub member_none : (k : Kind) → (k ≡ Member → ⊥) → (k ≡ Dot → ⊥) → is_member k ≡ true → ⊥
member_none Member m d h = m refl
member_none Dot m d h = d refl
member_none _ m d h = true≢false (sym h)
