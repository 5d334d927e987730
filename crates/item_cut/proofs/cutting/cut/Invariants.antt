use Rattle.std.proofs.Common.{length}
use Rattle.item_cut.proofs.Turns.{Cutting}
use Rattle.item_cut.proofs.cutting.cut.Given as goal

abbrev pub invariant-loop-token : goal.invariant-loop-token
invariant-loop-token l = Cutting l.tokens l.out.items l.progress l.start l.end l.rest

abbrev pub decreases-loop-token : goal.decreases-loop-token
decreases-loop-token l = length l.rest
