use Rattle.std.proofs.Common.{Some}
use Rattle.plain_mean.specs.Reads.{tokens_in}
use Rattle.plain_mean.proofs.Keys.{updated}
use Rattle.plain_mean.proofs.spelled.Held.put.Goals as goal

pub returns : goal.returns
unfolding tokens_in
returns c = updated c.args.self.now.texts c.insert.new.self c.args.file (Some c.args.tokens) c.in_ok-insert.ensures.updates.0
