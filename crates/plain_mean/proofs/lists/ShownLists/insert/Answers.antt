use Rattle.plain_mean.proofs.Keys.{lists}
use Rattle.plain_mean.proofs.lists.ShownLists.insert.Goals as goal

pub returns : goal.returns
returns c = lists c.args.self.now.lists c.insert.new.self c.args.path c.args.list c.in_ok-insert.ensures.updates.0
