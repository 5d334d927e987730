-- Tokens in order: by the name of their text, then by number.
use Rattle.std.specs.Prelude.{ℕ, Bool, false, not, ◌==◌, List, [], ◌∷◌}
use Rattle.std.specs.declared.cmp.Ordering.{Ordering}
use Rattle.std.specs.BTreeSet.{insert_key}
use Rattle.tok_data.specs.declared.sources.TokId.{TokId}
use Rattle.tok_data.specs.contracts.sources.TokIdOrd.TheImpl as order

abbrev pub tok_cmp : TokId → TokId → Ordering
tok_cmp s t = order.cmp-value.it s t

-- each once, ascending
abbrev pub in_order : List TokId → List TokId
in_order [] = []
in_order (t ∷ ts) = insert_key tok_cmp (in_order ts) t

-- the name of a library text begins with `<`, a path with `/`
abbrev pub is_library : List ℕ → Bool
is_library [] = false
is_library (c ∷ name) = c == 60

abbrev pub is_outside : TokId → Bool
is_outside t = not (is_library t.file)
