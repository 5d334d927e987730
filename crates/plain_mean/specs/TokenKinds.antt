-- The kinds of a text's preprocessing tokens (6.4).
use Rattle.std.specs.Prelude.{ℕ, List, [], map, Option, Some, None}
use Rattle.c_tokens.specs.Lexed.{lexed}
use Rattle.tok_data.specs.declared.tokens.PpKind.{PpKind}
use Rattle.tok_data.specs.declared.tokens.PpToken.{PpToken}

abbrev pub kinds_of : List PpToken → List PpKind
kinds_of tokens = map (λ token. token.kind) tokens

-- where there is no text there are none
abbrev pub kinds_in : Option (List ℕ) → List PpKind
kinds_in None = []
kinds_in (Some text) = kinds_of (lexed text).tokens
