use Rattle.std.proofs.Common.{◌≡◌, length}
use Rattle.elab_state.specs.Seen.{context_of}
use Rattle.elab_core.specs.Steps.{qualifiers, with_qualifiers}
use Rattle.elab_core.proofs.steps.qualifiers.Given as goal

abbrev pub invariant-words : goal.invariant-words
invariant-words l = with_qualifiers (context_of l.around) l.rest (l.gathered, l.made) ≡ qualifiers (context_of l.around) l.words l.fn.made

abbrev pub decreases-words : goal.decreases-words
decreases-words l = length l.rest
