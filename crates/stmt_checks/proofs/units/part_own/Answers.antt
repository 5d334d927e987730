use Rattle.std.proofs.Common.{arith}
use Rattle.stmt_checks.proofs.units.part_own.Goals as goal

pub split_off-requires : goal.split_off-requires
split_off-requires c = omega (arith, c.requires.heads, c.args.heads.now.ok.0)

pub split_off-requires-2 : goal.split_off-requires-2
split_off-requires-2 c = omega (arith, c.requires.bodies, c.args.bodies.now.ok.0)
