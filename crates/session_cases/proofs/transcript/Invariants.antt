-- No call of the store has failed.
use Rattle.std.proofs.Common.{◌≡◌}
use Rattle.session_cases.proofs.transcript.Given as goal

abbrev pub invariant-loop-line : goal.invariant-loop-line
invariant-loop-line g l =
    (goal.iterator-loop-line g).can_next l.line-iterator ×
    (goal.iterator-loop-line g).is_finite l.line-iterator ×
    (l.store.faults ≡ 0)
