use Rattle.std.proofs.Common.{◌∙◌}
use Rattle.stmt_parser.proofs.FramesRead.{one_turned}
use Rattle.stmt_parser.proofs.frames.prepend.Goals as goal

pub leads-preserved : goal.leads-preserved
leads-preserved c s =
    one_turned _ _ _ _ _ c.in-Some.ensures.items c.in_ok-push.ensures.items s ∙ c.leads.invariant s
