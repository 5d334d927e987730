use Rattle.std.proofs.Common.{◌≡◌, ◌++◌, map}
use Rattle.meaning_lists.specs.Firsts.{placed_occ}
use Rattle.meaning_lists.proofs.firsts.placed_occs.Given as goal

abbrev pub invariant-occs : goal.invariant-occs
invariant-occs l = l.out.items ++ map placed_occ l.occ-iterator.rest.items ≡ map placed_occ l.fn.occs.items
