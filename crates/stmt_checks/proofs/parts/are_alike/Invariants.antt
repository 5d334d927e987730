use Rattle.std.proofs.Common.{◌≡◌, length}
use Rattle.elab_state.specs.Tokens.{bare_tokens}
use Rattle.stmt_checks.proofs.parts.are_alike.Given as goal
use Rattle.stmt_checks.specs.Firm.{tokens_of}

abbrev pub invariant-tokens : goal.invariant-tokens
invariant-tokens l = bare_tokens l.rest ≡ tokens_of l.left → bare_tokens l.tokens ≡ tokens_of l.words

abbrev pub decreases-tokens : goal.decreases-tokens
decreases-tokens l = length l.rest
