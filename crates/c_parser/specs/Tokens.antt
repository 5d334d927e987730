-- The kinds of tokens of a unit, under names that are typedef names (ISO C11 6.4.1, 6.4.6, 6.7.8).
use Rattle.std.specs.Prelude.{ℕ, ◌+◌, List, [], ◌∷◌, Option, Some, None, map, bytes_eq, codes, if◌then◌else◌}
use Rattle.tok_data.specs.declared.tokens.OutToken.{OutToken}
use Rattle.tok_data.specs.declared.tokens.PpKind.{PpKind}
use Rattle.tok_data.specs.declared.tokens.PpKind.TheVariants as pp
use Rattle.tok_data.specs.Keywords.{is_keyword}
use Rattle.c_parser.specs.Enumerations.{settle}
use Rattle.c_parser.specs.declared.kinds.Kind.{Kind}
use Rattle.c_parser.specs.declared.kinds.Kind.TheVariants.{Identifier, TypeName, TypeWord, Qualifier, Tag, SizeOf, AlignOf, Constant, Text, OpenParen, CloseParen, OpenBracket, CloseBracket, OpenBrace, CloseBrace, Member, Step, Ampersand, Star, Sign, Complement, Quotient, Shift, Relation, Equality, Caret, Bar, And, Or, Question, Colon, Assignment, Equals, Dot, Comma, Generic, OffsetOf, Default, Ellipsis, Atomic, Static, Storage, Other, Typedef, Semicolon, Assert, If, Else, Switch, Case, While, Do, For, Goto, Continue, Break, Return, Enum, Align}

-- punctuators, digraphs as what they stand for
unfoldable pub marks : List (List ℕ × Kind)
marks =
    (codes "(", OpenParen) ∷ (codes ")", CloseParen) ∷ (codes ";", Semicolon) ∷ (codes ",", Comma)
    ∷ (codes "=", Equals) ∷ (codes "{", OpenBrace) ∷ (codes "}", CloseBrace) ∷ (codes "*", Star)
    ∷ (codes "->", Member) ∷ (codes ".", Dot) ∷ (codes "[", OpenBracket) ∷ (codes "]", CloseBracket)
    ∷ (codes "&", Ampersand) ∷ (codes "+", Sign) ∷ (codes "-", Sign) ∷ (codes "<", Relation) ∷ (codes "==", Equality)
    ∷ (codes "++", Step) ∷ (codes "!=", Equality) ∷ (codes "&&", And) ∷ (codes ">", Relation) ∷ (codes "||", Or)
    ∷ (codes "!", Complement) ∷ (codes "?", Question) ∷ (codes ":", Colon) ∷ (codes "<<", Shift) ∷ (codes "|", Bar)
    ∷ (codes "+=", Assignment) ∷ (codes ">=", Relation) ∷ (codes "<=", Relation) ∷ (codes "/", Quotient)
    ∷ (codes "%", Quotient) ∷ (codes "--", Step) ∷ (codes ">>", Shift) ∷ (codes "|=", Assignment)
    ∷ (codes "-=", Assignment) ∷ (codes "~", Complement) ∷ (codes "^", Caret) ∷ (codes "...", Ellipsis)
    ∷ (codes "&=", Assignment) ∷ (codes "<<=", Assignment) ∷ (codes "*=", Assignment) ∷ (codes ">>=", Assignment)
    ∷ (codes "/=", Assignment) ∷ (codes "^=", Assignment) ∷ (codes "%=", Assignment) ∷ (codes "<:", OpenBracket)
    ∷ (codes ":>", CloseBracket) ∷ (codes "<%", OpenBrace) ∷ (codes "%>", CloseBrace) ∷ []

abbrev pub lookup : List (List ℕ × Kind) → List ℕ → Kind
lookup [] text = Other
lookup (e ∷ es) text = if bytes_eq e.0 text then e.1 else lookup es text

unfoldable pub mark_of : List ℕ → Kind
mark_of = lookup marks

-- the keywords that the grammar has so far
unfoldable pub words : List (List ℕ × Kind)
words =
    (codes "int", TypeWord) ∷ (codes "return", Return) ∷ (codes "if", If) ∷ (codes "const", Qualifier)
    ∷ (codes "char", TypeWord) ∷ (codes "unsigned", TypeWord) ∷ (codes "struct", Tag) ∷ (codes "void", TypeWord)
    ∷ (codes "else", Else) ∷ (codes "static", Static) ∷ (codes "for", For) ∷ (codes "case", Case)
    ∷ (codes "break", Break) ∷ (codes "long", TypeWord) ∷ (codes "sizeof", SizeOf) ∷ (codes "while", While)
    ∷ (codes "double", TypeWord) ∷ (codes "default", Default) ∷ (codes "switch", Switch) ∷ (codes "goto", Goto)
    ∷ (codes "short", TypeWord) ∷ (codes "continue", Continue) ∷ (codes "enum", Enum) ∷ (codes "do", Do)
    ∷ (codes "extern", Storage) ∷ (codes "union", Tag) ∷ (codes "typedef", Typedef) ∷ (codes "float", TypeWord)
    ∷ (codes "signed", TypeWord) ∷ (codes "_Bool", TypeWord) ∷ (codes "inline", Storage)
    ∷ (codes "_Alignof", AlignOf) ∷ (codes "restrict", Qualifier) ∷ (codes "volatile", Qualifier)
    ∷ (codes "_Complex", TypeWord) ∷ (codes "_Imaginary", TypeWord) ∷ (codes "_Generic", Generic)
    ∷ (codes "__offsetof", OffsetOf) ∷ (codes "_Atomic", Atomic) ∷ (codes "_Thread_local", Storage)
    ∷ (codes "auto", Storage) ∷ (codes "register", Storage) ∷ (codes "_Noreturn", Storage)
    ∷ (codes "_Static_assert", Assert) ∷ (codes "_Alignas", Align) ∷ []

unfoldable pub keyword_of : List ℕ → Kind
keyword_of = lookup words

-- an identifier, by its number among the typedef names, if it is one; then it is no primary expression
abbrev pub named : Option ℕ → Kind
named None = Identifier
named (Some n) = TypeName n

unfoldable pub word_of : Option ℕ → List ℕ → Kind
word_of number text = if is_keyword text then keyword_of text else named number

-- `number` gives the numbers of the typedef names
abbrev pub pp_kind_of : (List ℕ → Option ℕ) → PpKind → List ℕ → Kind
pp_kind_of number pp.Ident text = word_of (number text) text
pp_kind_of number pp.Number text = Constant
pp_kind_of number pp.Char text = Constant
pp_kind_of number pp.Str text = Text
pp_kind_of number pp.Header text = Other
pp_kind_of number pp.Punct text = mark_of text
pp_kind_of number pp.Stray text = Other

abbrev pub kind_of : (List ℕ → Option ℕ) → OutToken → Kind
kind_of number t = pp_kind_of number t.kind t.spelling

-- the number of the last of these names that is the text, counted on from `at`, or what was found before
abbrev pub number_from : ℕ → Option ℕ → List (List ℕ) → List ℕ → Option ℕ
number_from at found [] text = found
number_from at found (name ∷ names) text = number_from (at + 1) (if bytes_eq name text then Some at else found) names text

-- the number of a typedef name
abbrev pub number_among : List (List ℕ) → List ℕ → Option ℕ
number_among names text = number_from 0 None names text

-- as they are spelled, and where an enumerator in front of one with its name hides it
abbrev pub spelled_kinds : List (List ℕ) → List OutToken → List Kind
spelled_kinds names tokens = map (kind_of (number_among names)) tokens

abbrev pub kinds_of : List (List ℕ) → List OutToken → List Kind
kinds_of names tokens = settle (spelled_kinds names tokens) 0
