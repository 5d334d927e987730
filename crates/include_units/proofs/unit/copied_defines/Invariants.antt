use Rattle.std.proofs.Common.{◌≡◌, take}
use Rattle.include_units.proofs.unit.copied_defines.Given as goal

abbrev pub invariant-loop-define : goal.invariant-loop-define
invariant-loop-define l = l.out.items ≡ take l.define-index l.defines
