use Rattle.std.proofs.Common.{[], unwrap_or, ap, None}
use Rattle.plain_mean.proofs.Keys.{elsewhere}
use Rattle.plain_mean.proofs.ranges.Numbers.take.Goals as goal

pub returns-in-Some-clause-others : goal.returns-in-Some-clause-others
returns-in-Some-clause-others c q apart = ap (λ o. unwrap_or o []) (elsewhere c.args.self.now.lists c.remove.new.self c.args.file.now None c.remove.ensures.updates.0 q apart)

pub returns-in-None-clause-others : goal.returns-in-None-clause-others
returns-in-None-clause-others c q apart = ap (λ o. unwrap_or o []) (elsewhere c.args.self.now.lists c.remove.new.self c.args.file.now None c.remove.ensures.updates.0 q apart)
