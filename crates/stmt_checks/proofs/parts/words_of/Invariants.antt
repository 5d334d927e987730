use Rattle.std.proofs.Common.{◌≡◌, ◌++◌, length}
use Rattle.elab_state.specs.Tokens.{bare_tokens}
use Rattle.stmt_checks.proofs.parts.words_of.Given as goal
use Rattle.stmt_checks.specs.Firm.{tokens_of}

abbrev pub invariant-tokens : goal.invariant-tokens
invariant-tokens l = tokens_of l.words.items ++ bare_tokens l.rest ≡ bare_tokens l.tokens

abbrev pub decreases-tokens : goal.decreases-tokens
decreases-tokens l = length l.rest
