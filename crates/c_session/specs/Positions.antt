-- Which token a position of a text denotes (LSP 3.17, Position).
use Rattle.std.specs.Prelude.{ℕ, List, Option, option_map}
use Rattle.c_tokens.specs.Lexed.{lexed}
use Rattle.doc_texts.specs.Texts.{Texts}
use Rattle.plain_mean.specs.Given.{text_in}
use Rattle.text_lines.specs.Positions.{offset_of}
use Rattle.text_lines.specs.declared.encoding.Encoding.{Encoding}
use Rattle.text_lines.specs.declared.pos.Pos.{Pos}
use Rattle.tok_data.specs.declared.sources.TokId.{TokId}
use Rattle.unit_index.specs.Under.{under}

-- the number of the identifier whose range holds the position, else of the one that ends there
unfoldable pub denoted : List ℕ → Encoding → Pos → Option ℕ
denoted text encoding pos = under (lexed text).tokens (lexed text).places (offset_of text pos encoding)

abbrev pub token : List ℕ → ℕ → TokId
token path at = record { file = path; at = at }

-- a path without a text denotes nothing: an empty text has no token
unfoldable pub token_at : Texts → Encoding → List ℕ → Pos → Option TokId
token_at texts encoding path pos = option_map (token path) (denoted (text_in texts path) encoding pos)
