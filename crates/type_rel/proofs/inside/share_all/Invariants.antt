use Rattle.std.proofs.Common.{◌≡◌, ◌++◌, length}
use Rattle.type_rel.proofs.inside.share_all.Given as goal

abbrev pub invariant-loop-id : goal.invariant-loop-id
invariant-loop-id l = l.out.items ++ l.rest ≡ l.fn.out.items ++ l.ids

abbrev pub decreases-loop-id : goal.decreases-loop-id
decreases-loop-id l = length l.rest
