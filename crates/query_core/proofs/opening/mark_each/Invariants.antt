use Rattle.std.proofs.Common.{◌≡◌, length}
use Rattle.query_core.specs.Marking.{all_marked}
use Rattle.query_core.specs.Readers.{clean_of}
use Rattle.query_core.specs.Stored.{clean_in}
use Rattle.query_core.proofs.opening.mark_each.Given as goal

abbrev pub invariant-entries : goal.invariant-entries
invariant-entries g l = all_marked l.reached (clean_of l.readers (clean_in l.nodes.slots) l.rest) ≡ all_marked l.fn.reached (clean_of l.readers (clean_in l.nodes.slots) l.entries)

abbrev pub decreases-entries : goal.decreases-entries
decreases-entries g l = length l.rest
