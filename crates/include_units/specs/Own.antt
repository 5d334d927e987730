-- The tokens of a text of the server's own, and their places.
use Rattle.std.specs.Prelude.{ℕ, List}
use Rattle.tok_data.specs.declared.tokens.PpToken.{PpToken}
use Rattle.text_lines.specs.Positions.{line_starts}
use Rattle.c_tokens.specs.declared.types.Places.{Places}
use Rattle.c_tokens.specs.Lexed.{lexed}

abbrev pub own_tokens : List ℕ → List PpToken
own_tokens text = (lexed text).tokens

abbrev pub own_places : List ℕ → Places
own_places text = record {
  places = (lexed text).places;
  lines = line_starts text;
  faults = (lexed text).faults;
}
