use Rattle.std.proofs.Common.{◌≡◌, ◌++◌, length}
use Rattle.std.specs.List.{flat_map}
use Rattle.unit_index.specs.Crossing.{placed}
use Rattle.unit_index.proofs.across.placing.add_all_placed.Given as goal

abbrev pub invariant-crossings : goal.invariant-crossings
invariant-crossings l = l.out.items ++ flat_map (placed l.unit) l.rest ≡ l.fn.out.items ++ flat_map (placed l.unit) l.crossings

abbrev pub decreases-crossings : goal.decreases-crossings
decreases-crossings l = length l.rest
