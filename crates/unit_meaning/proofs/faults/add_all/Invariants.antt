use Rattle.std.proofs.Common.{◌≡◌, ◌++◌, length, map}
use Rattle.unit_meaning.specs.Faults.{shown}
use Rattle.unit_meaning.specs.Seen.{showing_of}
use Rattle.unit_meaning.proofs.faults.add_all.Given as goal

abbrev pub invariant-faults : goal.invariant-faults
invariant-faults l = l.out.items ++ map (shown (showing_of l.showing) l.item) l.rest ≡ l.fn.out.items ++ map (shown (showing_of l.showing) l.item) l.faults

abbrev pub decreases-faults : goal.decreases-faults
decreases-faults l = length l.rest
