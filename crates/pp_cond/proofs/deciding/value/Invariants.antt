use Rattle.std.proofs.Common.{◌≡◌, length}
use Rattle.std.specs.FinMap as map
use Rattle.pp_cond.specs.Defined.{symbols}
use Rattle.pp_cond.specs.Machine.{run, at_first}
use Rattle.pp_cond.proofs.deciding.value.Given as goal

abbrev pub invariant-loop-token : goal.invariant-loop-token
invariant-loop-token l =
    run l.reader (symbols (map.get l.table) l.rest) ≡ run at_first (symbols (map.get l.table) l.tokens)

abbrev pub decreases-loop-token : goal.decreases-loop-token
decreases-loop-token l = length l.rest
