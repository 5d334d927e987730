use Rattle.std.proofs.Common.{[], unwrap_or, ap, Some}
use Rattle.plain_mean.proofs.Keys.{elsewhere}
use Rattle.plain_mean.proofs.ranges.Numbers.put.Goals as goal

pub returns-clause-others : goal.returns-clause-others
returns-clause-others c q apart = ap (λ o. unwrap_or o []) (elsewhere c.args.self.now.lists c.insert.new.self c.args.file (Some c.from_vec.result) c.in_ok-insert.ensures.updates.0 q apart)
