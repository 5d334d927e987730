-- Which tokens are enumeration constants where an enumerator declares them (ISO C11 6.7.2.2), and what the tokens behind them are (6.2.1p7). The
-- tokens alone tell: nothing else of the grammar has a `{` behind `enum` and a tag.
use Rattle.std.specs.Prelude.{◌≡◌, ℕ, zero, suc, ◌+◌, ◌-◌, ◌==◌, ◌<◌, nat_lt, take, ◌&&◌, ◌||◌, not, if◌then◌else◌, List, [], ◌∷◌, ◌++◌, length, slice_index_or, Bool, true, false}
use Rattle.c_parser.specs.declared.kinds.Kind.{Kind}
use Rattle.c_parser.specs.declared.kinds.Kind.TheVariants.{Identifier, TypeName, Enum, Comma}
use Rattle.c_parser.specs.Brackets.{opens, closes}
use Rattle.c_parser.specs.Kinds.{kind_at, is_brace, is_typedef, is_word}

abbrev pub is_enum : Kind → Bool
is_enum Enum = true
is_enum _ = false

abbrev pub is_comma : Kind → Bool
is_comma Comma = true
is_comma _ = false

-- the `{` of a list of enumerators
unfoldable pub opens_list : List Kind → ℕ → Bool
opens_list kinds at =
    is_brace (kind_at kinds at)
    && (is_enum (kind_at kinds (at - 1)) || (is_word (kind_at kinds (at - 1)) && is_enum (kind_at kinds (at - 2))))

-- all but the last
abbrev pub outer : List Bool → List Bool
outer levels = take (length levels - 1) levels

-- of each bracket that is open, the innermost last, whether enumerators stand in it; behind a token of this kind
unfoldable pub open_behind : List Bool → Kind → Bool → List Bool
open_behind levels k list = if opens k then levels ++ list ∷ [] else (if closes k then outer levels else levels)

-- in front of the token with this number
abbrev pub open_at : List Kind → ℕ → List Bool
open_at kinds zero = []
open_at kinds (suc n) = open_behind (open_at kinds n) (kind_at kinds n) (opens_list kinds n)

abbrev pub innermost : List Bool → Bool
innermost levels = slice_index_or levels (length levels - 1) false

-- with these brackets open in front of it, the enumeration constant of an enumerator: the identifier behind the `{` or a `,` of the list
unfoldable pub is_constant : List Kind → ℕ → List Bool → Bool
is_constant kinds at levels =
    innermost levels && (is_word (kind_at kinds at) && (is_brace (kind_at kinds (at - 1)) || is_comma (kind_at kinds (at - 1))))

abbrev pub enumerates : List Kind → ℕ → Bool
enumerates kinds at = is_constant kinds at (open_at kinds at)

abbrev pub is_name : ℕ → Kind → Bool
is_name n (TypeName m) = m == n
is_name n _ = false

-- an enumerator of this typedef name stands in front of a place, and not in front of `from`
abbrev pub declared_in : List Kind → ℕ → ℕ → ℕ → Bool
declared_in kinds n from zero = false
declared_in kinds n from (suc at) =
    (nat_lt from (at + 1) && (enumerates kinds at && is_name n (kind_at kinds at))) || declared_in kinds n from at

-- what the token with this number is in a part that begins at `from`: no typedef name behind an enumerator of the same name
abbrev pub in_force : List Kind → ℕ → ℕ → Kind → Kind
in_force kinds from at (TypeName n) = if declared_in kinds n from at then Identifier else TypeName n
in_force kinds from at k = k

abbrev pub settle_on : List Kind → ℕ → ℕ → List Kind → List Kind
settle_on kinds from at [] = []
settle_on kinds from at (k ∷ ks) = in_force kinds from at k ∷ settle_on kinds from (at + 1) ks

-- what the tokens are for a part that begins at `from`
unfoldable pub settle : List Kind → ℕ → List Kind
settle kinds from = settle_on kinds from 0 kinds

-- the number behind the last enumerator of this typedef name in front of a place, or 0
abbrev pub last_of : List Kind → ℕ → ℕ → ℕ
last_of kinds n zero = 0
last_of kinds n (suc at) = if enumerates kinds at && is_name n (kind_at kinds at) then at + 1 else last_of kinds n at

-- of the name that stands there
abbrev pub earlier_by : List Kind → Kind → ℕ → ℕ
earlier_by kinds (TypeName n) at = last_of kinds n at
earlier_by kinds k at = 0

abbrev pub earlier : List Kind → ℕ → ℕ
earlier kinds at = earlier_by kinds (kind_at kinds at) at

-- what is known so far of the name that is a token
abbrev pub known : List ℕ → Kind → ℕ
known latest (TypeName n) = slice_index_or latest n 0
known latest k = 0

-- both, of each token
pub record AreMarks (kinds : List Kind) (constants : List Bool) (behind : List ℕ) : Type 0 where
  pub constant : (at : ℕ) → slice_index_or constants at false ≡ enumerates kinds at
  pub last : (at : ℕ) → slice_index_or behind at 0 ≡ earlier kinds at

-- an enumerator that hides a typedef name stands in front of a place, and not in front of `from`
abbrev pub bars : List Kind → ℕ → ℕ → Bool
bars kinds from zero = false
bars kinds from (suc at) = (nat_lt from (at + 1) && (enumerates kinds at && is_typedef (kind_at kinds at))) || bars kinds from at
