use Rattle.std.proofs.Common.{◌∙◌, ap}
use Rattle.tree_data.specs.Stated.{leads_of}
use Rattle.tree_data.specs.Statements.{led}
use Rattle.stmt_parser.specs.Frames.{led_back}
use Rattle.stmt_parser.proofs.frames.turned.Goals as goal

pub returns : goal.returns
returns c s =
    c.in_ok-prepend.ensures s ∙ ap (λ y. led (leads_of c.args.leads.items) (led_back (leads_of y) s)) c.new-behind.ensures.items
