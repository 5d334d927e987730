use Rattle.std.proofs.Common.{◌≡◌, ◌++◌, length}
use Rattle.std.specs.FinMap as map
use Rattle.pp_cond.specs.Defined.{occurrences}
use Rattle.pp_cond.proofs.occurrences.occurrences.Given as goal

abbrev pub invariant-loop-token : goal.invariant-loop-token
invariant-loop-token l =
    l.out.items ++ occurrences (map.get l.table) l.left l.rest ≡ occurrences (map.get l.table) l.left l.tokens

abbrev pub decreases-loop-token : goal.decreases-loop-token
decreases-loop-token l = length l.rest
