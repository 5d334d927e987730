-- Tokens by the text that they stand in.
use Rattle.std.specs.Prelude.{ℕ, Bool, nat_eq, List, [], unwrap_or}
use Rattle.std.specs.Cmp.Lexicographic.{pointwise}
use Rattle.std.specs.HashMap.{HashMap, get}
use Rattle.tok_data.specs.declared.sources.TokId.{TokId}

abbrev pub same_file : List ℕ → List ℕ → Bool
same_file f g = pointwise nat_eq f g

abbrev pub is_in : List ℕ → TokId → Bool
is_in f t = same_file t.file f

-- what a map has at a text
unfoldable pub in_group : {S : Type 0} → HashMap (List ℕ) (List TokId) S → List ℕ → List TokId
in_group map f = unwrap_or (get same_file map f) []
