use Rattle.std.proofs.Common.{length}
use Rattle.project_conf.specs.Defines.{AreUsable}
use Rattle.include_units.proofs.unit.are_usable.Given as goal

abbrev pub invariant-loop-define : goal.invariant-loop-define
invariant-loop-define l = AreUsable l.size l.rest → AreUsable 268435456 l.fn.defines

abbrev pub decreases-loop-define : goal.decreases-loop-define
decreases-loop-define l = length l.rest
