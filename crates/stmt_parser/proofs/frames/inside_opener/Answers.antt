use Rattle.std.proofs.Common.{◌∙◌, ap, sym, subst}
use Rattle.stmt_parser.specs.Frames.{Opens, inside_opener}
use Rattle.stmt_parser.proofs.FramesRead.{opened_inside}
use Rattle.stmt_parser.proofs.frames.inside_opener.Goals as goal

pub returns-in_ok-inside-in-If : goal.returns-in_ok-inside-in-If
returns-in_ok-inside-in-If c =
    let opens = subst (Opens c.args.scope.now c.args.at) c.in-If.is c.requires.opens in
    opened_inside _ _ c.in_ok-shared.ensures _ _ _ opens.1 _ c.in_ok-inside-in-If.ensures.past
    ∙ sym (ap (inside_opener c.args.scope.now) c.in-If.is)
