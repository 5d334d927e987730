use Rattle.std.proofs.Common.{◌≡◌, length}
use Rattle.unit_meaning.specs.Sites.{entry_of}
use Rattle.unit_meaning.proofs.sites.entry_of.Given as goal

abbrev pub invariant-reached : goal.invariant-reached
invariant-reached l = entry_of l.rest l.tok ≡ entry_of l.fn.reached l.fn.tok

abbrev pub decreases-reached : goal.decreases-reached
decreases-reached l = length l.rest
