use Rattle.std.proofs.Common.{◌≡◌, ◌++◌, length, map}
use Rattle.plain_mean.specs.Meanings.{shown_fault}
use Rattle.plain_mean.proofs.meaning.all_shown.Given as goal

abbrev pub invariant-faults : goal.invariant-faults
invariant-faults l = l.out.items ++ map (shown_fault l.reached) l.rest ≡ map (shown_fault l.fn.reached) l.fn.faults

abbrev pub decreases-faults : goal.decreases-faults
decreases-faults l = length l.rest
