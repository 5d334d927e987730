-- The kinds of tokens by their numbers, and what those of operators begin or go on with (ISO C11 6.5).
use Rattle.std.specs.Prelude.{ℕ, ◌+◌, ◌-◌, ◌<◌, ◌&&◌, ◌||◌, ◌==◌, if◌then◌else◌, map, not, Option, Some, None, List, [], ◌∷◌, length, slice_index_or, Bool, true, false}
use Rattle.c_parser.specs.declared.kinds.Kind.{Kind}
use Rattle.c_parser.specs.declared.kinds.Named.{Named}
use Rattle.c_parser.specs.declared.kinds.Named.TheVariants.{Never, Plainly, Freely}
use Rattle.c_parser.specs.declared.kinds.Site.{Site}
use Rattle.c_parser.specs.declared.kinds.Site.TheVariants.{OfName, OfMember, OfDeclaration}
use Rattle.c_parser.specs.declared.kinds.Kind.TheVariants.{Equals, Dot, Identifier, TypeName, OpenParen, CloseParen, OpenBracket, CloseBracket, Member, Step, SizeOf, AlignOf, TypeWord, Qualifier, Tag, Complement, Question, Assignment, Comma, Or, And, Bar, Caret, Ampersand, Equality, Relation, Shift, Sign, Star, Quotient, Colon, Atomic, Storage, Static, End, Typedef, Semicolon, OpenBrace, Enum, Align}

-- the level of precedence at which an expression goes on with such a token behind it, 0 where it doesn't: 1 for `,`,
-- 2 for assignment, 3 for `?`, from `||` at 4 to `*` at 13, 16 for postfix operators
abbrev pub level_of : Kind → ℕ
level_of Comma = 1
level_of Assignment = 2
level_of Equals = 2
level_of Question = 3
level_of Or = 4
level_of And = 5
level_of Bar = 6
level_of Caret = 7
level_of Ampersand = 8
level_of Equality = 9
level_of Relation = 10
level_of Shift = 11
level_of Sign = 12
level_of Star = 13
level_of Quotient = 13
level_of OpenBracket = 16
level_of OpenParen = 16
level_of Member = 16
level_of Dot = 16
level_of Step = 16
level_of _ = 0

-- `++` `--` `&` `*` `+` `-` `~` `!` `sizeof` in front of an operand (6.5.3)
abbrev pub is_prefix : Kind → Bool
is_prefix Step = true
is_prefix Ampersand = true
is_prefix Star = true
is_prefix Sign = true
is_prefix Complement = true
is_prefix SizeOf = true
is_prefix _ = false

-- what a postfix operator begins with (6.5.2)
abbrev pub is_suffix : Kind → Bool
is_suffix OpenBracket = true
is_suffix OpenParen = true
is_suffix Member = true
is_suffix Dot = true
is_suffix Step = true
is_suffix _ = false

-- `sizeof` and `_Alignof`, which may stand in front of a type name in parentheses (6.5.3)
abbrev pub is_size : Kind → Bool
is_size SizeOf = true
is_size AlignOf = true
is_size _ = false

-- `++`, `--` and `sizeof`, whose operand is a unary-expression and so no cast (6.5.3)
abbrev pub is_tight : Kind → Bool
is_tight Step = true
is_tight SizeOf = true
is_tight _ = false

-- `=` among the assignment operators, and `.` of `.` and `->`, where an initializer is designated (6.7.9)
abbrev pub is_equals : Kind → Bool
is_equals Equals = true
is_equals _ = false

-- `.` and `->`, with a member behind them (6.5.2)
abbrev pub is_member : Kind → Bool
is_member Member = true
is_member Dot = true
is_member _ = false

abbrev pub is_dot : Kind → Bool
is_dot Dot = true
is_dot _ = false

-- what a designator begins with, and no initializer (6.7.9)
abbrev pub is_designating : Kind → Bool
is_designating OpenBracket = true
is_designating Dot = true
is_designating _ = false

-- an identifier, whether or not it is a typedef name
abbrev pub is_word : Kind → Bool
is_word Identifier = true
is_word (TypeName n) = true
is_word _ = false

-- keywords for types and qualifiers, each of which stands for itself in a list of specifiers (6.7.2, 6.7.3)
abbrev pub is_specifying : Kind → Bool
is_specifying TypeWord = true
is_specifying Qualifier = true
is_specifying Storage = true
is_specifying Static = true
is_specifying Typedef = true
is_specifying _ = false

abbrev pub is_qualifier : Kind → Bool
is_qualifier Qualifier = true
is_qualifier _ = false

abbrev pub is_type_word : Kind → Bool
is_type_word TypeWord = true
is_type_word _ = false

-- a storage class (6.7.1) or a function specifier (6.7.4)
abbrev pub is_storage : Kind → Bool
is_storage Storage = true
is_storage Static = true
is_storage Typedef = true
is_storage _ = false

-- the storage class `typedef` (6.7.1)
abbrev pub is_typedef_word : Kind → Bool
is_typedef_word Typedef = true
is_typedef_word _ = false

-- what the name of a type or a parameter begins with (6.7.6, 6.7.7)
abbrev pub starts_type : Kind → Bool
starts_type TypeWord = true
starts_type Qualifier = true
starts_type Tag = true
starts_type Enum = true
starts_type Align = true
starts_type (TypeName n) = true
starts_type Atomic = true
starts_type Storage = true
starts_type Static = true
starts_type Typedef = true
starts_type _ = false

-- in front of such a token a declarator or the name of a type may end: `)`, `:`, `,`, `;`, `=`, `{`, and behind all tokens
abbrev pub ends_type : Kind → Bool
ends_type CloseParen = true
ends_type Colon = true
ends_type Comma = true
ends_type Semicolon = true
ends_type Equals = true
ends_type OpenBrace = true
ends_type End = true
ends_type _ = false

-- in front of such a token specifiers may end; a typedef name is one of them where no type specifier stands before it
abbrev pub ends_specifiers : Kind → Bool → Bool
ends_specifiers Star typed = true
ends_specifiers Identifier typed = true
ends_specifiers (TypeName n) typed = typed
ends_specifiers OpenParen typed = true
ends_specifiers OpenBracket typed = true
ends_specifiers CloseParen typed = true
ends_specifiers Colon typed = true
ends_specifiers Comma typed = true
ends_specifiers Semicolon typed = true
ends_specifiers Equals typed = true
ends_specifiers OpenBrace typed = true
ends_specifiers End typed = true
ends_specifiers _ typed = false

-- of the token with this number, `End` behind the last
abbrev pub kind_at : List Kind → ℕ → Kind
kind_at kinds at = slice_index_or kinds at End

abbrev pub level_at : List Kind → ℕ → ℕ
level_at kinds at = level_of (kind_at kinds at)

abbrev pub is_opening : Kind → Bool
is_opening OpenParen = true
is_opening _ = false

-- a type name in parentheses begins here
unfoldable pub type_at : List Kind → ℕ → Bool
type_at kinds at = is_opening (kind_at kinds at) && starts_type (kind_at kinds (at + 1))

-- the size or alignment of a type name in parentheses begins here
unfoldable pub size_at : List Kind → ℕ → Bool
size_at kinds at = is_size (kind_at kinds at) && type_at kinds (at + 1)

-- no operator stands in front of this token that takes a unary-expression
unfoldable pub casts_at : List Kind → ℕ → Bool
casts_at kinds at = not (is_tight (kind_at kinds (at - 1)))

-- `_Atomic` stands for itself where no `(` stands behind it (6.7.3); in front of one it begins a type specifier (6.7.2.4p4)
abbrev pub is_atomic : Kind → Bool
is_atomic Atomic = true
is_atomic _ = false

unfoldable pub atomic_at : List Kind → ℕ → Bool
atomic_at kinds at = is_atomic (kind_at kinds at) && not (is_opening (kind_at kinds (at + 1)))

-- a keyword that stands for itself in a list of specifiers, and one among them that is a qualifier
unfoldable pub specifies_at : List Kind → ℕ → Bool
specifies_at kinds at = is_specifying (kind_at kinds at) || atomic_at kinds at

unfoldable pub qualifies_at : List Kind → ℕ → Bool
qualifies_at kinds at = is_qualifier (kind_at kinds at) || atomic_at kinds at

-- `_Atomic ( type-name )` begins here
unfoldable pub atomic_opens : List Kind → ℕ → Bool
atomic_opens kinds at = is_atomic (kind_at kinds at) && is_opening (kind_at kinds (at + 1))

-- behind a `(` at the front of a declarator such a token shows parameters, and any other a declarator in parentheses (6.7.6.3p11)
abbrev pub opens_parameters : Kind → Bool
opens_parameters CloseParen = true
opens_parameters TypeWord = true
opens_parameters Qualifier = true
opens_parameters Tag = true
opens_parameters Enum = true
opens_parameters Align = true
opens_parameters (TypeName n) = true
opens_parameters Atomic = true
opens_parameters Storage = true
opens_parameters Static = true
opens_parameters Typedef = true
opens_parameters _ = false

abbrev pub is_identifier : Kind → Bool
is_identifier Identifier = true
is_identifier _ = false

abbrev pub is_typedef : Kind → Bool
is_typedef (TypeName n) = true
is_typedef _ = false

-- which name a declarator has: none, as a type's name; an identifier that is no typedef name; any identifier
abbrev pub may_name : Named → Kind → Bool
may_name Never k = false
may_name Plainly k = is_identifier k
may_name Freely k = is_word k

-- the declarator of a parameter, or of a type's name, behind specifiers: a typedef name stands behind a type specifier
abbrev pub named_by : Bool → Bool → Named
named_by false typed = Never
named_by true false = Plainly
named_by true true = Freely

-- a declarator in parentheses: a typedef name behind its `(` is a parameter's type and no name (6.7.6.3p11)
abbrev pub grouped : Named → Named
grouped Never = Never
grouped Plainly = Plainly
grouped Freely = Plainly

-- behind a `*` each identifier is a name
abbrev pub pointed : Named → Named
pointed Never = Never
pointed Plainly = Freely
pointed Freely = Freely

abbrev pub behind_pointers : {A : Type 0} → Named → List A → Named
behind_pointers named [] = named
behind_pointers named (p ∷ ps) = pointed named

-- the name that a declarator declares stands here, where it may have one
unfoldable pub names_at : List Kind → ℕ → Named → Bool
names_at kinds at named = may_name named (kind_at kinds at)

-- where the typedef name w is hidden, its tokens are identifiers (6.2.1p4)
abbrev pub hidden_one : ℕ → Kind → Kind
hidden_one w (TypeName n) = if n == w then Identifier else TypeName n
hidden_one w k = k

unfoldable pub hide_word : List Kind → ℕ → List Kind
hide_word kinds w = map (hidden_one w) kinds

abbrev pub hide_kind : List Kind → Kind → List Kind
hide_kind kinds (TypeName w) = hide_word kinds w
hide_kind kinds k = kinds

-- what the tokens are where this name is declared, if there is one
abbrev pub hide : List Kind → Option ℕ → List Kind
hide kinds None = kinds
hide kinds (Some n) = hide_kind kinds (kind_at kinds n)

-- `_Alignas`, which begins an alignment specifier (6.7.5)
abbrev pub is_align : Kind → Bool
is_align Align = true
is_align _ = false

-- what begins with such a token may stand among specifiers: storage classes and function specifiers in a declaration (6.7) and not among
-- members (6.7.2.1), alignments in these two and not in a type's name (6.7.7)
abbrev pub admits : Site → Kind → Bool
admits OfDeclaration k = true
admits OfMember k = not (is_storage k)
admits OfName k = not (is_storage k) && not (is_align k)

abbrev pub site_of : Bool → Site
site_of false = OfName
site_of true = OfDeclaration

-- what stands here may not stand among specifiers
unfoldable pub stored_amiss : List Kind → ℕ → Site → Bool
stored_amiss kinds at site = not (admits site (kind_at kinds at))

-- `struct`, `union` and `enum`, behind which a tag may stand (6.7.2.3)
abbrev pub is_tagging : Kind → Bool
is_tagging Tag = true
is_tagging Enum = true
is_tagging _ = false

abbrev pub is_brace : Kind → Bool
is_brace OpenBrace = true
is_brace _ = false

-- the `{` of a list of members or enumerators behind its keyword, or behind its tag
unfoldable pub braces_at : List Kind → ℕ → Bool
braces_at kinds at = is_brace (kind_at kinds at) || (is_word (kind_at kinds at) && is_brace (kind_at kinds (at + 1)))

-- `struct` or `union` with members (6.7.2.1), or `enum` with enumerators (6.7.2.2), begins here
unfoldable pub list_opens : List Kind → ℕ → Bool
list_opens kinds at = is_tagging (kind_at kinds at) && braces_at kinds (at + 1)

-- the name of a declarator that has one: directly behind specifiers without a type specifier a typedef name would be one of these (6.7.2);
-- behind `*`, `(` and `,` it is the name
abbrev pub names_it : Bool → Kind → Bool
names_it true k = is_identifier k
names_it false k = is_word k

abbrev pub plain_behind : {A : Type 0} → Bool → List A → Bool
plain_behind plain [] = plain
plain_behind plain (p ∷ ps) = false

-- what an array or a function begins with in a declarator (6.7.6)
abbrev pub is_deriving : Kind → Bool
is_deriving OpenBracket = true
is_deriving OpenParen = true
is_deriving _ = false

abbrev pub is_star : Kind → Bool
is_star Star = true
is_star _ = false

abbrev pub is_closing_bracket : Kind → Bool
is_closing_bracket CloseBracket = true
is_closing_bracket _ = false

-- `*` in place of an array's size: behind one that is an operator an operand stands
unfoldable pub any_size_at : List Kind → ℕ → Bool
any_size_at kinds at = is_star (kind_at kinds at) && is_closing_bracket (kind_at kinds (at + 1))

-- a kind but `End` is that of a token
abbrev pub IsInside : List Kind → ℕ → Kind → Type 0
IsInside kinds at End = Unit {0}
IsInside kinds at _ = at < length kinds
