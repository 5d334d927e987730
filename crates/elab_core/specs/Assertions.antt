-- Static assertions (ISO C11 6.7.10), whose condition is an integer constant expression.
use Rattle.std.specs.Prelude.{ℕ, List, map, Option, Some, None}
use Rattle.head_rules.specs.Assertions.{assertion}
use Rattle.type_data.specs.declared.judged.Judged.{Judged}
use Rattle.elab_state.specs.Contexts.{Context}
use Rattle.elab_state.specs.declared.made.Made.{Made}
use Rattle.elab_state.specs.Tokens.{spelling}
use Rattle.elab_core.specs.Constants.{Needed, Has, Lacks, needed}
use Rattle.elab_core.specs.Notes.{noted}

-- `keyword` is `_Static_assert`, and `ns` are the pieces of its string
abbrev pub asserted_by : Context → ℕ → List ℕ → Needed → Made → Made
asserted_by c keyword ns (Has v) m = noted (assertion keyword (map (spelling c.tokens) ns) (Some v)) m
asserted_by c keyword ns Lacks m = m

-- `begins` is the first token of the condition
abbrev pub asserted : Context → ℕ → List ℕ → ℕ → Judged → Made → Made
asserted c keyword ns begins j m = asserted_by c keyword ns (needed begins j m).0 (needed begins j m).1
