use Rattle.std.proofs.Common.{◌∙◌, ap, reverse}
use Rattle.tree_data.specs.Stated.{stmt_of, leads_of}
use Rattle.tree_data.specs.Statements.{led}
use Rattle.stmt_parser.proofs.FramesRead.{back_reversed, written_back}
use Rattle.stmt_parser.proofs.frames.finished.Goals as goal

pub returns : goal.returns
returns c =
    c.in_ok-stmt.ensures
    ∙ ap (λ y. led (leads_of y) (stmt_of c.args.core)) (written_back _ _ _ (c.reverse.ensures.len ∙ c.as_mut_slice.ensures.len) ∙ c.reverse.ensures.after ∙ ap reverse c.as_mut_slice.ensures.value)
    ∙ back_reversed c.args.behind.items (stmt_of c.args.core)
