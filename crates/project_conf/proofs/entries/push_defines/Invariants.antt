use Rattle.std.proofs.Common.{◌≡◌, ◌++◌, length}
use Rattle.project_conf.proofs.entries.push_defines.Given as goal

abbrev pub invariant-loop-define : goal.invariant-loop-define
invariant-loop-define l = l.out.items ++ l.rest ≡ l.fn.out.items ++ l.defines

abbrev pub decreases-loop-define : goal.decreases-loop-define
decreases-loop-define l = length l.rest
