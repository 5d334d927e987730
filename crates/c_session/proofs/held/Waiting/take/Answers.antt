use Rattle.std.proofs.Common.{None}
use Rattle.c_session.proofs.Holding.{elsewhere}
use Rattle.c_session.proofs.held.Waiting.take.Goals as goal

pub returns-clause-others : goal.returns-clause-others
returns-clause-others c q apart = elsewhere c.args.self.now.units c.remove.new.self c.args.path.now None c.remove.ensures.updates.0 q apart
