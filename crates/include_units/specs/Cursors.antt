-- The tokens of a text from one of them on.
use Rattle.std.specs.Prelude.{ℕ, List, drop}
use Rattle.tok_data.specs.declared.tokens.PpToken.{PpToken}

-- the number of the first of them, and these tokens
pub record Ahead : Type 0 where
  pub at : ℕ
  pub tokens : List PpToken

abbrev pub ahead : ℕ → List PpToken → Ahead
ahead at all = record { at = at; tokens = drop at all }
