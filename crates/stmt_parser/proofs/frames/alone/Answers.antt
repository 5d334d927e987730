use Rattle.std.proofs.Common.{◌∙◌, ap, ◌∷◌, []}
use Rattle.tree_data.specs.Stated.{leads_of}
use Rattle.tree_data.specs.Statements.{led}
use Rattle.stmt_parser.specs.Frames.{led_back}
use Rattle.stmt_parser.proofs.FramesRead.{back_pushed}
use Rattle.stmt_parser.proofs.frames.alone.Goals as goal

pub returns : goal.returns
returns c s =
    c.in_ok-prepend.ensures s
    ∙ ap (λ y. led (leads_of c.args.leads.items) y)
    (back_pushed c.args.behind.items c.push.new.list.items _ c.in_ok-push.ensures.items s
    ∙ ap (λ l. led (l ∷ []) (led_back (leads_of c.args.behind.items) s)) c.in_ok-lead.ensures)
