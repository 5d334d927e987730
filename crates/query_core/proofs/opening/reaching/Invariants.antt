use Rattle.std.proofs.Common.{◌+◌, ◌-◌, length}
use Rattle.query_core.specs.Readers.{clean_readers}
use Rattle.query_core.specs.Stored.{clean_in}
use Rattle.query_core.proofs.Marking.{Finding, unmarked}
use Rattle.query_core.proofs.opening.reaching.Given as goal

abbrev pub invariant-places : goal.invariant-places
invariant-places g l = Finding (clean_readers l.readers (clean_in l.nodes.slots)) (clean_readers l.readers (clean_in l.nodes.slots) l.node) l.reached l.place

abbrev pub decreases-places : goal.decreases-places
decreases-places g l = unmarked (length l.nodes.slots) l.reached + (length l.reached - l.place)
