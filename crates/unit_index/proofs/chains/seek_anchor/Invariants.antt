use Rattle.std.proofs.Common.{length}
use Rattle.unit_index.specs.Codes.{anchor_code}
use Rattle.unit_index.specs.Occurrences.{is_of}
use Rattle.unit_index.proofs.PlaceLemmas.{AreSoughtBy, to_go}
use Rattle.unit_index.proofs.chains.seek_anchor.Given as goal

abbrev pub invariant-places : goal.invariant-places
invariant-places l = AreSoughtBy (is_of l.anchor) l.occs l.places (anchor_code l.anchor) l.fn.from l.at

abbrev pub decreases-places : goal.decreases-places
decreases-places l = to_go (length l.occs) l.at
