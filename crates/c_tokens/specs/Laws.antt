-- What holds of the pieces of every text.
use Rattle.std.specs.Prelude.{◌≡◌, ◌↔◌, ℕ, ◌<◌, ◌≤◌, true, false, List, [], ◌∷◌, length, IfSome, IsUtf8, IsCharBoundary}
use Rattle.std.specs.List.{flat_map}
use Rattle.c_tokens.specs.declared.types.LexFault.{LexFault}
use Rattle.tok_data.specs.declared.tokens.PpToken.{PpToken}
use Rattle.tok_data.specs.declared.tokens.PpKind.TheVariants.{Ident}
use Rattle.c_tokens.specs.Logical.{Character, logical}
use Rattle.c_tokens.specs.Pieces.{Piece}
use Rattle.c_tokens.specs.Lexed.{lexed, pieces_of}
use Rattle.c_tokens.specs.Languages.{is_identifier}

-- the characters of pieces, joined
abbrev pub joined : List Piece → List Character
joined ps = flat_map (λ p. p.characters) ps

-- no logical character is lost, and none stands in two pieces
abbrev pub PiecesJoin : List ℕ → Type 0
PiecesJoin text = joined (pieces_of text) ≡ logical text

-- the ranges of characters follow one another from a place on: each begins where the one before ended
abbrev pub Follow : ℕ → ℕ → List Character → Type 0
Follow from limit [] = from ≤ limit
Follow from limit (c ∷ cs) = (c.from ≡ from) × (c.from ≤ c.own) × (c.own ≤ c.to) × Follow c.to limit cs

-- the ranges of a text's characters cover it from its front on
abbrev pub CharactersFollow : List ℕ → Type 0
CharactersFollow text = Follow 0 (length text) (logical text)

-- ranges of a text that stand in order from a place on, up to a limit: none is empty, and each begins and ends where a
-- code point does
abbrev pub InOrder : List ℕ → ℕ → ℕ → List (ℕ × ℕ) → Type 0
InOrder text from limit [] = from ≤ limit
InOrder text from limit (r ∷ rs) = (from ≤ r.0) × (r.0 < r.1) × IsCharBoundary text r.0 × IsCharBoundary text r.1 × InOrder text r.1 limit rs

-- ranges that are in order up to a place are so up to a later one, with what was added
abbrev pub Grows : List ℕ → ℕ → ℕ → List (ℕ × ℕ) → List (ℕ × ℕ) → Type 0
Grows text at here rs more = IsUtf8 text → IsCharBoundary text at → InOrder text 0 at rs → InOrder text 0 here more

-- a fault that has a token has one of the first `count`
abbrev pub AreNumbered : ℕ → List LexFault → Type 0
AreNumbered count [] = Unit {0}
AreNumbered count (f ∷ fs) = IfSome f.tok (λ number. number < count) × AreNumbered count fs

abbrev pub ranges : List LexFault → List (ℕ × ℕ)
ranges [] = []
ranges (f ∷ fs) = (f.start, f.end) ∷ ranges fs

-- the one token of a text that is an identifier as it stands
abbrev pub whole_token : List ℕ → PpToken
whole_token text = record { kind = Ident; spelling = text; space_before = false; line_start = true }

abbrev pub IdentifierIsToken : List ℕ → Type 0
IdentifierIsToken text = is_identifier text ≡ true ↔ (lexed text).tokens ≡ whole_token text ∷ []
