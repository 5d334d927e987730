use Rattle.std.proofs.Common.{◌≡◌, ◌++◌, length}
use Rattle.std.specs.FinMap as map
use Rattle.pp_cond.specs.Defined.{prepared}
use Rattle.pp_cond.proofs.defined.prepared.Given as goal

abbrev pub invariant-loop-token : goal.invariant-loop-token
invariant-loop-token l =
    l.out.items ++ prepared (map.get l.table) l.rest ≡ prepared (map.get l.table) l.tokens

abbrev pub decreases-loop-token : goal.decreases-loop-token
decreases-loop-token l = length l.rest
