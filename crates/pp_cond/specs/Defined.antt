-- The operator `defined` (ISO C11 6.10.1p1, p4), which is read before the expansion of a condition and after it.
use Rattle.std.specs.Prelude.{ℕ, zero, suc, Bool, false, ◌&&◌, ◌||◌, not, List, [], ◌∷◌, map, flat_map, Option, Some, None, option_map, is_some, if◌then◌else◌, bytes_eq, codes}
use Rattle.tok_data.specs.declared.sources.TokId.{TokId}
use Rattle.tok_data.specs.declared.tokens.PpKind.TheVariants.{Number}
use Rattle.tok_data.specs.declared.tokens.Spelt.TheVariants.{Made}
use Rattle.tok_data.specs.declared.tokens.OutToken.{OutToken}
use Rattle.tok_data.specs.declared.macros.MacroOcc.{MacroOcc}
use Rattle.tok_data.specs.declared.macros.MacroRole.{MacroRole}
use Rattle.tok_data.specs.declared.macros.MacroRole.TheVariants.{Tests, Uses}
use Rattle.macro_expand.specs.Expansion.{Definitions}
pub use Rattle.macro_expand.specs.Progress.{place_by, is_made}
pub use Rattle.macro_expand.specs.Tokens.{is_ident, is_punct, is_mark}
use Rattle.pp_cond.specs.declared.symbols.Symbol.{Symbol}
use Rattle.pp_cond.specs.Symbols.{symbol_of, one_if}

-- an identifier that is spelt so
abbrev pub is_word : List ℕ → OutToken → Bool
is_word text t = is_ident t.kind && bytes_eq t.spelling text

-- `)` stands in front
abbrev pub closes : List OutToken → Bool
closes [] = false
closes (t ∷ ts) = is_mark (codes ")") t

-- `identifier )`: the identifier, and how many tokens these are with the parenthesis before them
abbrev pub in_parens : List OutToken → Option (OutToken × ℕ)
in_parens [] = None
in_parens (t ∷ ts) = if is_ident t.kind && closes ts then Some (t, 3) else None

-- `identifier` or `( identifier )`: the identifier, and how many tokens these are
abbrev pub operand : List OutToken → Option (OutToken × ℕ)
operand [] = None
operand (t ∷ ts) =
    if is_ident t.kind then Some (t, 1) else (if is_mark (codes "(") t then in_parens ts else None)

-- what `defined` tests, where the token is that
abbrev pub tested : OutToken → List OutToken → Option (OutToken × ℕ)
tested t ts = if is_word (codes "defined") t then operand ts else None

-- a token, or `defined` with its operand
pub data Piece : Type 0 where
  Plain : OutToken → Piece
  Test : OutToken → OutToken → Piece

abbrev pub piece : OutToken → Option OutToken → Piece
piece t None = Plain t
piece t (Some u) = Test t u

abbrev pub width : Option (OutToken × ℕ) → ℕ
width None = 0
width (Some p) = p.1

abbrev pub name_in : Option (OutToken × ℕ) → Option OutToken
name_in o = option_map (λ p. p.0) o

-- the pieces of a list, of which the first tokens are left out
abbrev pub pieces_behind : ℕ → List OutToken → List Piece
pieces_behind skip [] = []
pieces_behind zero (t ∷ ts) = piece t (name_in (tested t ts)) ∷ pieces_behind (width (tested t ts)) ts
pieces_behind (suc skip) (t ∷ ts) = pieces_behind skip ts

abbrev pub pieces : List OutToken → List Piece
pieces ts = pieces_behind 0 ts

-- `__LINE__` and `__FILE__`, which are macros without a definition
abbrev pub is_predefined : List ℕ → Bool
is_predefined name = bytes_eq name (codes "__LINE__") || bytes_eq name (codes "__FILE__")

abbrev pub is_defined : Definitions → List ℕ → Bool
is_defined table name = is_predefined name || is_some (table name)

-- the name's token in the definition that is in force
abbrev pub definition : Definitions → List ℕ → Option TokId
definition table name = if is_predefined name then None else option_map (λ def. def.tok) (table name)

-- 6.10.1p4: before the expansion `defined` with its operand becomes 1 or 0
abbrev pub answer : OutToken → Bool → OutToken
answer t holds = record t { kind = Number; spelling = if holds then codes "1" else codes "0"; spelt = Made }

abbrev pub written : Definitions → Piece → OutToken
written table (Plain t) = t
written table (Test t u) = answer t (is_defined table u.spelling)

abbrev pub prepared : Definitions → List OutToken → List OutToken
prepared table ts = map (written table) (pieces ts)

-- after the expansion it is a number
abbrev pub symbol : Definitions → Piece → Symbol
symbol table (Plain t) = symbol_of t
symbol table (Test t u) = one_if (is_defined table u.spelling)

abbrev pub symbols : Definitions → List OutToken → List Symbol
symbols table ts = map (symbol table) (pieces ts)

abbrev pub occurrence : Definitions → MacroRole → OutToken → MacroOcc
occurrence table role t = record {
  tok = place_by t.site t.spelt;
  name = t.spelling;
  role = role;
  def = definition table t.spelling;
  made = is_made t.spelt;
}

-- an identifier that is left, but `defined`
abbrev pub is_left : OutToken → Bool
is_left t = is_ident t.kind && not (bytes_eq t.spelling (codes "defined"))

-- the occurrences of names: operands of `defined`, and where `left` says so the identifiers that are left
abbrev pub occurrences_of : Definitions → Bool → Piece → List MacroOcc
occurrences_of table left (Plain t) = if left && is_left t then occurrence table Uses t ∷ [] else []
occurrences_of table left (Test t u) = occurrence table Tests u ∷ []

abbrev pub occurrences : Definitions → Bool → List OutToken → List MacroOcc
occurrences table left ts = flat_map (occurrences_of table left) (pieces ts)
