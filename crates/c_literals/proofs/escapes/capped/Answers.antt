use Rattle.std.proofs.Common.{arith}
use Rattle.c_literals.proofs.CCharLemmas.{past_alike}
use Rattle.c_literals.proofs.escapes.capped.Goals as goal

pub returns-clause-same : goal.returns-clause-same
returns-clause-same c = λ p base ds some. past_alike p base 4294967296 c.args.value ds some (omega arith) (omega arith)
