use Rattle.std.proofs.Common.{◌-◌, length}
use Rattle.unit_index.proofs.PlaceLemmas.{AreSought}
use Rattle.unit_index.proofs.places.seek.Given as goal

abbrev pub invariant-places : goal.invariant-places
invariant-places l = AreSought (length l.links.firsts.items) l.links.codes.items l.code l.from l.at

abbrev pub decreases-places : goal.decreases-places
decreases-places l = length l.links.codes.items - l.at
