use Rattle.std.proofs.Common.{arith}
use Rattle.stmt_checks.proofs.Folds.{body_within}
use Rattle.stmt_checks.proofs.folding.head_part.Goals as goal

pub overflow_add-body_start : goal.overflow_add-body_start
overflow_add-body_start c = omega (arith, body_within c.args.tokens.now)
