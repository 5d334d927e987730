use Rattle.std.proofs.Common.{◌≡◌, map, take}
use Rattle.c_session.specs.Units.{exported}
use Rattle.c_session.proofs.cross.exported.Given as goal

abbrev pub invariant-units : goal.invariant-units
invariant-units l = l.out.items ≡ map exported (take l.unit-index l.fn.units)
