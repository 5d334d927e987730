use Rattle.std.proofs.Common.{sym, ap}
use Rattle.elab_core.specs.Ends.{front_begins}
use Rattle.elab_core.proofs.Layers.{prefix_cast, prefix_operator}
use Rattle.elab_core.proofs.ends.prefix_begins.Goals as goal

pub returns-in-Operator : goal.returns-in-Operator
returns-in-Operator c = sym (ap front_begins (prefix_operator c.args.prefix.now c.in-Operator.at c.in-Operator.is))

pub returns-in-Cast : goal.returns-in-Cast
returns-in-Cast c = sym (ap front_begins (prefix_cast c.args.prefix.now c.in-Cast.opening c.in-Cast.field-1 c.in-Cast.field-2 c.in-Cast.is))
