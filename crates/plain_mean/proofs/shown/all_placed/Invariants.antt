use Rattle.std.proofs.Common.{◌≡◌, ◌++◌, length, map}
use Rattle.plain_mean.specs.Shown.{placed}
use Rattle.plain_mean.proofs.shown.all_placed.Given as goal

abbrev pub invariant-faults : goal.invariant-faults
invariant-faults l = l.out.items ++ map (placed l.places) l.rest ≡ map (placed l.fn.places) l.fn.faults

abbrev pub decreases-faults : goal.decreases-faults
decreases-faults l = length l.rest
