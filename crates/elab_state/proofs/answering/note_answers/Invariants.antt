use Rattle.std.proofs.Common.{◌≡◌, false, length}
use Rattle.elab_state.specs.Answering.{with_answered}
use Rattle.elab_state.specs.Asked.{identifiers}
use Rattle.elab_state.specs.Tokens.{bare_tokens}
use Rattle.elab_state.specs.Wants.{answered}
use Rattle.elab_state.proofs.answering.note_answers.Given as goal

abbrev pub invariant-tokens : goal.invariant-tokens
invariant-tokens l = with_answered (answered l.known) (identifiers l.tag (bare_tokens l.rest)) l.made ≡ with_answered (answered l.known) (identifiers false (bare_tokens l.tokens)) l.fn.made

abbrev pub decreases-tokens : goal.decreases-tokens
decreases-tokens l = length l.rest
