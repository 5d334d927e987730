use Rattle.plain_mean.proofs.Keys.{stands}
use Rattle.plain_mean.proofs.marks.Marks.add.Goals as goal

pub returns : goal.returns
returns c = stands c.args.self.now.paths c.insert.new.self c.args.path tt c.in_ok-insert.ensures.updates.0
