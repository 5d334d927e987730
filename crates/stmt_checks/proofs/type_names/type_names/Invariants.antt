use Rattle.std.proofs.Common.{◌≡◌, ◌++◌, length}
use Rattle.elab_state.specs.Tokens.{bare_tokens}
use Rattle.stmt_checks.specs.TypeNames as spec
use Rattle.stmt_checks.proofs.type_names.type_names.Given as goal

abbrev pub invariant-tokens : goal.invariant-tokens
invariant-tokens l = l.made.items ++ spec.type_names l.names (bare_tokens l.rest) ≡ spec.type_names l.names (bare_tokens l.tokens)

abbrev pub decreases-tokens : goal.decreases-tokens
decreases-tokens l = length l.rest
