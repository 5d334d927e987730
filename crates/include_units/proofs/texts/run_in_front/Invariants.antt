use Rattle.std.proofs.Common.{◌≡◌, ◌≤◌, ◌+◌, length}
use Rattle.include_units.specs.Texts.{before_run, parts_from}
use Rattle.include_units.specs.Fronts.{IsFurther}
use Rattle.include_units.proofs.texts.run_in_front.Given as goal

abbrev pub invariant-loop-token : goal.invariant-loop-token
invariant-loop-token l = (before_run l.out (parts_from l.name l.number l.rest) ≡ before_run l.fn.begun (parts_from l.fn.name l.fn.at l.fn.tokens))
    × (l.number + length l.rest ≡ l.fn.at + length l.fn.tokens)
    × (length l.rest ≤ length l.fn.tokens)
    × IsFurther l.fn.at l.fn.tokens l.number l.rest

abbrev pub decreases-loop-token : goal.decreases-loop-token
decreases-loop-token l = length l.rest
