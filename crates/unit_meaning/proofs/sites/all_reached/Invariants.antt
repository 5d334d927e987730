use Rattle.std.proofs.Common.{◌≡◌, [], length}
use Rattle.unit_meaning.specs.Sites.{all_reached}
use Rattle.unit_meaning.proofs.sites.all_reached.Given as goal

abbrev pub invariant-entered : goal.invariant-entered
invariant-entered l = all_reached l.reached.items l.rest ≡ all_reached [] l.fn.entered

abbrev pub decreases-entered : goal.decreases-entered
decreases-entered l = length l.rest
