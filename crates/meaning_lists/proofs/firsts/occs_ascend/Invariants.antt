use Rattle.std.proofs.Common.{◌≡◌, length, map}
use Rattle.meaning_lists.specs.Firsts.{placed_occ}
use Rattle.meaning_lists.specs.Order.{ascends_from}
use Rattle.meaning_lists.proofs.firsts.occs_ascend.Given as goal

abbrev pub invariant-occs : goal.invariant-occs
invariant-occs l = ascends_from l.last (map placed_occ l.rest) ≡ ascends_from 0 (map placed_occ l.fn.occs)

abbrev pub decreases-occs : goal.decreases-occs
decreases-occs l = length l.rest
