use Rattle.c11ls.proofs.Running.{ends_at_once}
use Rattle.c11ls.proofs.run.run.Goals as goal

pub returns-in-Err-clause-ended : goal.returns-in-Err-clause-ended
returns-in-Err-clause-ended g c = ends_at_once c.args.options _ _
