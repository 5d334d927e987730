use Rattle.std.proofs.Common.{◌≡◌, ◌++◌, length}
use Rattle.meaning_lists.specs.Names.{defined}
use Rattle.meaning_lists.proofs.names.defined.Given as goal

abbrev pub invariant-stated : goal.invariant-stated
invariant-stated l = l.out.items ++ defined l.rest ≡ defined l.fn.stated

abbrev pub decreases-stated : goal.decreases-stated
decreases-stated l = length l.rest
