use Rattle.std.proofs.Common.{length}
use Rattle.earlier_items.proofs.Differing.{Noting}
use Rattle.earlier_items.proofs.differences.note_all.Given as goal

abbrev pub invariant-asked : goal.invariant-asked
invariant-asked l = Noting l.earlier.known l.before l.asked l.rest l.fn.names l.names l.fn.changed l.changed

abbrev pub decreases-asked : goal.decreases-asked
decreases-asked l = length l.rest
