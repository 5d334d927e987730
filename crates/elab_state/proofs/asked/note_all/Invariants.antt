use Rattle.std.proofs.Common.{◌≡◌, false, length}
use Rattle.elab_state.specs.Asked.{all_noted, identifiers}
use Rattle.elab_state.specs.Tokens.{bare_tokens}
use Rattle.elab_state.specs.Wants.{answered}
use Rattle.elab_state.proofs.asked.note_all.Given as goal

abbrev pub invariant-tokens : goal.invariant-tokens
invariant-tokens l = all_noted (answered l.known) l.asked (identifiers l.tag (bare_tokens l.rest)) ≡ all_noted (answered l.known) l.fn.asked (identifiers false (bare_tokens l.tokens))

abbrev pub decreases-tokens : goal.decreases-tokens
decreases-tokens l = length l.rest
