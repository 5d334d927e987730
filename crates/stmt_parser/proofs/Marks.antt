-- Kinds told apart by what begins with them.
use Rattle.std.proofs.Common.{◌≡◌, refl, ap, sym, ◌∙◌, ℕ, ◌≤◌, arith, Bool, true, false, true≢false}
use Rattle.c_parser.specs.declared.kinds.Kind.{Kind}
use Rattle.c_parser.specs.declared.kinds.Kind.TheVariants.{Identifier, TypeName, TypeWord, Qualifier, Tag, Atomic, Storage, Typedef, Static, Assert, Constant, Text, OpenParen, CloseParen, Step, Ampersand, Star, Sign, Complement, SizeOf, AlignOf, Generic, OffsetOf, OpenBrace, CloseBrace, Colon, Semicolon, If, Else, Switch, Case, Default, While, Do, For, Goto, Continue, Break, Return, Enum, Align}
use Rattle.c_parser.specs.Kinds.{level_of, level_at, is_word}
use Rattle.c_parser.specs.Parts.{starts_expression, starts_declaration}
use Rattle.c_parser.specs.Reading.{Stops}
use Rattle.c_parser.specs.Words.{Words, shown, kind_in}
use Rattle.stmt_parser.specs.Reading.{is_else, ends_expression}

abbrev pub code_of : Kind → ℕ
code_of Identifier = 1
code_of (TypeName n) = 1
code_of Case = 2
code_of Default = 3
code_of If = 4
code_of Switch = 5
code_of While = 6
code_of For = 7
code_of Semicolon = 8
code_of Goto = 9
code_of Continue = 10
code_of Break = 11
code_of Return = 12
code_of Do = 13
code_of OpenBrace = 14
code_of _ = 0

pub clash : {A : Type 0} → (k : Kind) → (i j : ℕ) → code_of k ≡ i → code_of k ≡ j → (i ≡ j → ⊥) → A
clash k i j e f h = absurd (h (sym e ∙ f))

pub coded : (w : Words) → (a : ℕ) → (k : Kind) → kind_in w a ≡ k → code_of (kind_in w a) ≡ code_of k
coded w a k e = ap code_of e

pub word_code : (k : Kind) → is_word k ≡ true → code_of k ≡ 1
word_code Identifier h = refl
word_code (TypeName n) h = refl
word_code _ h = absurd (true≢false (sym h))

pub start_code : (k : Kind) → starts_expression k ≡ true → code_of k ≤ 1
start_code Identifier h = omega arith
start_code Constant h = omega arith
start_code Text h = omega arith
start_code OpenParen h = omega arith
start_code Step h = omega arith
start_code Ampersand h = omega arith
start_code Star h = omega arith
start_code Sign h = omega arith
start_code Complement h = omega arith
start_code SizeOf h = omega arith
start_code AlignOf h = omega arith
start_code Generic h = omega arith
start_code OffsetOf h = omega arith
start_code _ h = absurd (true≢false (sym h))

pub start_word : (k : Kind) → starts_expression k ≡ true → is_word k ≡ true → k ≡ Identifier
start_word Identifier h w = refl
start_word (TypeName n) h w = absurd (true≢false (sym h))
start_word _ h w = absurd (true≢false (sym w))

pub declaring_code : (k : Kind) → starts_declaration k ≡ true → code_of k ≤ 1
declaring_code TypeWord h = omega arith
declaring_code Qualifier h = omega arith
declaring_code Tag h = omega arith
declaring_code Enum h = omega arith
declaring_code Align h = omega arith
declaring_code (TypeName n) h = omega arith
declaring_code Atomic h = omega arith
declaring_code Storage h = omega arith
declaring_code Typedef h = omega arith
declaring_code Static h = omega arith
declaring_code Assert h = omega arith
declaring_code _ h = absurd (true≢false (sym h))

pub start_declares_not : (k : Kind) → starts_expression k ≡ true → starts_declaration k ≡ true → ⊥
start_declares_not TypeWord h d = true≢false (sym h)
start_declares_not Qualifier h d = true≢false (sym h)
start_declares_not Tag h d = true≢false (sym h)
start_declares_not Enum h d = true≢false (sym h)
start_declares_not Align h d = true≢false (sym h)
start_declares_not (TypeName n) h d = true≢false (sym h)
start_declares_not Atomic h d = true≢false (sym h)
start_declares_not Storage h d = true≢false (sym h)
start_declares_not Typedef h d = true≢false (sym h)
start_declares_not Static h d = true≢false (sym h)
start_declares_not Assert h d = true≢false (sym h)
start_declares_not _ h d = true≢false (sym d)

pub end_starts_not : (k : Kind) → ends_expression k ≡ true → starts_expression k ≡ false
end_starts_not Semicolon h = refl
end_starts_not CloseParen h = refl
end_starts_not Colon h = refl
end_starts_not _ h = absurd (true≢false (sym h))

end_level : (k : Kind) → ends_expression k ≡ true → level_of k ≡ 0
end_level Semicolon h = refl
end_level CloseParen h = refl
end_level Colon h = refl
end_level _ h = absurd (true≢false (sym h))

pub stops_before : (w : Words) → (n b : ℕ) → 1 ≤ n → ends_expression (kind_in w b) ≡ true → Stops (shown w) n b
stops_before w n b le h =
    let none : level_at (shown w) b ≡ 0 = end_level (kind_in w b) h in
    omega (arith, none, le)

pub ended : (w : Words) → (c : ℕ) → (k : Kind) → kind_in w c ≡ k → ends_expression k ≡ true → ends_expression (kind_in w c) ≡ true
ended w c k e h = ap ends_expression e ∙ h

-- what a block's item may begin with: neither `else` nor `}`
abbrev pub begins_item : Kind → Bool
begins_item Else = false
begins_item CloseBrace = false
begins_item _ = true

abbrev pub is_close : Kind → Bool
is_close CloseBrace = true
is_close _ = false

pub word_begins : (k : Kind) → is_word k ≡ true → begins_item k ≡ true
word_begins Identifier h = refl
word_begins (TypeName n) h = refl
word_begins _ h = absurd (true≢false (sym h))

pub start_begins : (k : Kind) → starts_expression k ≡ true → begins_item k ≡ true
start_begins Else h = absurd (true≢false (sym h))
start_begins CloseBrace h = absurd (true≢false (sym h))
start_begins _ h = refl

pub declaring_begins : (k : Kind) → starts_declaration k ≡ true → begins_item k ≡ true
declaring_begins Else h = absurd (true≢false (sym h))
declaring_begins CloseBrace h = absurd (true≢false (sym h))
declaring_begins _ h = refl

pub begun_no_else : (k : Kind) → begins_item k ≡ true → is_else k ≡ false
begun_no_else Else h = absurd (true≢false (sym h))
begun_no_else _ h = refl

pub no_else_of : (k l : Kind) → k ≡ l → is_else l ≡ false → is_else k ≡ true → ⊥
no_else_of k l e n h = true≢false (sym h ∙ ap is_else e ∙ n)

pub close_begins_not : (k : Kind) → is_close k ≡ true → begins_item k ≡ false
close_begins_not CloseBrace h = refl
close_begins_not _ h = absurd (true≢false (sym h))

pub close_else_not : (k : Kind) → is_close k ≡ true → is_else k ≡ false
close_else_not CloseBrace h = refl
close_else_not _ h = absurd (true≢false (sym h))
