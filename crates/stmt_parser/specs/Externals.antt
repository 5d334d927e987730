-- A unit as a list of external declarations (ISO C11 6.9), and the law that it is cut into these.
use Rattle.std.specs.Prelude.{◌≡◌, ℕ, ◌+◌, ◌&&◌, ◌||◌, not, Bool, true, false, List, [], ◌∷◌, length}
use Rattle.item_cut.specs.Items.{items}
use Rattle.item_cut.specs.Marks as mark
use Rattle.tok_data.specs.declared.tokens.OutToken.{OutToken}
use Rattle.tree_data.specs.Statements.{Statement}
use Rattle.tree_data.specs.Trees.{Heading}
use Rattle.c_parser.specs.declared.kinds.Kind.{Kind}
use Rattle.c_parser.specs.declared.kinds.Kind.TheVariants.{CloseParen, OpenBrace, CloseBrace, Semicolon}
use Rattle.c_parser.specs.Brackets.{opens, closes}
use Rattle.c_parser.specs.Heads.{HoldsHead}
use Rattle.c_parser.specs.Kinds.{kind_at, is_equals}
use Rattle.c_parser.specs.Parts.{HoldsDeclaration, is_declaration}
use Rattle.c_parser.specs.Words.{Words, kind_in}
use Rattle.stmt_parser.specs.Balance.{is_pair, Pairs, No_token, Token_then, Pair_then, ArePairs}
use Rattle.stmt_parser.specs.Bodies.{is_block}
use Rattle.stmt_parser.specs.Reading.{HoldsStatement}

-- 6.9 external-declaration : declaration | function-definition. Each part with the flags of the identifiers that are no typedef names at its front
pub data External : Type 0 where
  Declares_under : List Bool → Heading → External
  Defines_under : List Bool → Heading → List Bool → Statement → External

abbrev pub under : List Kind → List Bool → Words
under kinds hidden = record { kinds = kinds; hidden = hidden }

-- the body's `{`, which the head ends with and the body begins with, stands behind a `)`
abbrev pub HoldsExternal : List Kind → External → ℕ → ℕ → Type 0
HoldsExternal ks (Declares_under hidden d) a b = HoldsDeclaration (under ks hidden) d a b
HoldsExternal ks (Defines_under hidden h inner s) a b =
    (p : ℕ) × (is_declaration h ≡ false) × HoldsHead (under ks hidden) h a (p + 2) × (kind_at ks p ≡ CloseParen)
    × (is_block s ≡ true) × HoldsStatement (under ks inner) s (p + 1) b

-- one behind another, each with the number of its first token and the number behind its last
abbrev pub HoldExternals : List Kind → List External → ℕ → ℕ → List (ℕ × ℕ) → Type 0
HoldExternals ks [] a b is = (b ≡ a) × (is ≡ [])
HoldExternals ks (x ∷ xs) a b is =
    (m : ℕ) × (rest : List (ℕ × ℕ)) × HoldsExternal ks x a m × HoldExternals ks xs m b rest × (is ≡ (a, m) ∷ rest)

-- what tells items apart
abbrev pub is_semicolon : Kind → Bool
is_semicolon Semicolon = true
is_semicolon _ = false

abbrev pub is_open_brace : Kind → Bool
is_open_brace OpenBrace = true
is_open_brace _ = false

abbrev pub is_close_brace : Kind → Bool
is_close_brace CloseBrace = true
is_close_brace _ = false

abbrev pub is_close_paren : Kind → Bool
is_close_paren CloseParen = true
is_close_paren _ = false

-- a token is spelled as its kind says
pub record IsSpelled (k : Kind) (t : OutToken) : Type 0 where
  pub opening : mark.is_opening t.spelling ≡ opens k
  pub closing : mark.is_closing t.spelling ≡ closes k
  pub open_brace : mark.is_open_brace t.spelling ≡ is_open_brace k
  pub close_brace : mark.is_close_brace t.spelling ≡ is_close_brace k
  pub close_paren : mark.is_close_paren t.spelling ≡ is_close_paren k
  pub semicolon : mark.is_semicolon t.spelling ≡ is_semicolon k
  pub equals : mark.is_equals t.spelling ≡ is_equals k

-- the tokens from a on
abbrev pub AreSpelled : Words → ℕ → List OutToken → Type 0
AreSpelled w a [] = Unit {0}
AreSpelled w a (t ∷ ts) = IsSpelled (kind_in w a) t × AreSpelled w (a + 1) ts

-- from a to b no `;` stands outside of brackets, and no `{` behind a `)` where no `=` stands outside of brackets before it; `closed` says that the
-- token in front is a `)`, and `assigned` that such an `=` stood, at the front and at the end
abbrev pub AreQuiet : Words → Pairs → ℕ → ℕ → Bool → Bool → Bool → Bool → Type 0
AreQuiet w No_token a b closed assigned closed' assigned' = (b ≡ a) × (closed ≡ closed') × (assigned ≡ assigned')
AreQuiet w (Token_then ps) a b closed assigned closed' assigned' =
    ((opens (kind_in w a) || closes (kind_in w a)) ≡ false) × (is_semicolon (kind_in w a) ≡ false)
    × AreQuiet w ps (a + 1) b false (assigned || is_equals (kind_in w a)) closed' assigned'
AreQuiet w (Pair_then inner ps) a b closed assigned closed' assigned' =
    (c : ℕ) × (opens (kind_in w a) ≡ true) × ((is_open_brace (kind_in w a) && closed && not assigned) ≡ false)
    × ArePairs w inner (a + 1) c × (is_pair (kind_in w a) (kind_in w c) ≡ true)
    × AreQuiet w ps (c + 1) b (is_close_paren (kind_in w c)) assigned closed' assigned'

pub record IsQuiet (w : Words) (a b : ℕ) (closed assigned : Bool) : Type 0 where
  pub pairs : Pairs
  pub are : AreQuiet w pairs a b false false closed assigned

-- a declaration up to its `;`
pub record DeclarationIsQuiet (w : Words) (a b : ℕ) : Type 0 where
  pub last : ℕ
  pub closed : Bool
  pub assigned : Bool
  pub quiet : IsQuiet w a last closed assigned
  pub semicolon : kind_in w last ≡ Semicolon
  pub ends : b ≡ last + 1

-- heads are so, up to the `;` or the `{`
pub record HeadsAreQuiet : Type 0 where
  pub declaration : (w : Words) → (d : Heading) → (a b : ℕ) → HoldsDeclaration w d a b → DeclarationIsQuiet w a b
  pub definition :
      (w : Words) → (h : Heading) → (a p : ℕ) → HoldsHead w h a (p + 2) → is_declaration h ≡ false → IsQuiet w a (p + 1) (is_close_paren (kind_in w p)) false

-- a list of external declarations is cut into these
abbrev pub UnitsAreCut : Type 0
UnitsAreCut =
    (ks : List Kind) → (hidden : List Bool) → (tokens : List OutToken) → AreSpelled (under ks hidden) 0 tokens → (xs : List External) → (is : List (ℕ × ℕ))
    → HoldExternals ks xs 0 (length tokens) is → items tokens ≡ is
