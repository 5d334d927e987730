-- What lexing gives: the tokens of a text, their places and the lexical faults.
use Rattle.std.specs.Prelude.{ℕ, ◌+◌, Bool, true, false, List, [], ◌∷◌, ◌++◌, take, length, Option, Some, None}
use Rattle.std.specs.List.{flat_map}
use Rattle.tok_data.specs.declared.tokens.PpKind.{PpKind}
use Rattle.tok_data.specs.declared.tokens.PpKind.TheVariants.{Stray}
use Rattle.c_tokens.specs.declared.pieces.Class.{Class}
use Rattle.c_tokens.specs.declared.pieces.Class.TheVariants.{OpenComment, Token, OpenLiteral}
use Rattle.c_tokens.specs.declared.pieces.Context.{Context}
use Rattle.c_tokens.specs.declared.pieces.Context.TheVariants.{Fresh}
use Rattle.tok_data.specs.declared.tokens.PpToken.{PpToken}
use Rattle.c_tokens.specs.declared.types.LexFault.{LexFault}
use Rattle.c_tokens.specs.declared.types.Lexed.{Lexed}
use Rattle.c_tokens.specs.Logical.{Character, logical, start_of, end_of}
use Rattle.c_tokens.specs.Pieces.{Piece, pieces, spelling}

-- the pieces of a text
abbrev pub pieces_of : List ℕ → List Piece
pieces_of text = pieces Fresh false 0 (logical text)

abbrev pub is_fresh : Context → Bool
is_fresh Fresh = true
is_fresh _ = false

abbrev pub token_as : PpKind → Piece → PpToken
token_as kind p = record { kind = kind; spelling = spelling p.characters; space_before = p.spaced; line_start = is_fresh p.context }

-- a piece's range in the text, which begins behind what was removed at its front
abbrev pub place : List Character → ℕ × ℕ
place cs = (start_of cs, end_of 0 cs)

-- the token of a piece, and its place
abbrev pub kind_of : Class → Option PpKind
kind_of (Token kind) = Some kind
kind_of (OpenLiteral kind) = Some kind
kind_of _ = None

abbrev pub token_by : Option PpKind → Piece → List PpToken
token_by None p = []
token_by (Some kind) p = token_as kind p ∷ []

abbrev pub place_by : Option PpKind → Piece → List (ℕ × ℕ)
place_by None p = []
place_by (Some kind) p = place p.characters ∷ []

abbrev pub token_of : Piece → List PpToken
token_of p = token_by (kind_of p.class) p

abbrev pub place_of : Piece → List (ℕ × ℕ)
place_of p = place_by (kind_of p.class) p

abbrev pub fault : ℕ → List Character → Option ℕ → List LexFault
fault rule cs token = (record { rule = rule; start = start_of cs; end = end_of 0 cs; tok = token }) ∷ []

abbrev pub fault_as : Class → List Character → ℕ → List LexFault
fault_as OpenComment cs number = fault 101 (take 2 cs) None
fault_as (OpenLiteral kind) cs number = fault 102 cs (Some number)
fault_as (Token Stray) cs number = fault 103 cs (Some number)
fault_as _ cs number = []

-- the faults of pieces, where the next token has a number: an open comment (its first two characters), an open
-- literal and a stray character
abbrev pub faults_from : ℕ → List Piece → List LexFault
faults_from number [] = []
faults_from number (p ∷ ps) = fault_as p.class p.characters number ++ faults_from (number + length (token_of p)) ps

abbrev pub lexed : List ℕ → Lexed
lexed text = record {
  tokens = flat_map token_of (pieces_of text);
  places = flat_map place_of (pieces_of text);
  faults = faults_from 0 (pieces_of text);
}
