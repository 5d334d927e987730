use Rattle.std.proofs.Common.{◌∙◌}
use Rattle.c_parser.proofs.Parsing.{pieces_end}
use Rattle.c_parser.proofs.expressions.pieces.Goals as goal

pub returns-in_default : goal.returns-in_default
returns-in_default c = record {
  found = pieces_end _ _ _ _ c.pieces.invariant (λ e. c.in_default.not-Text (c.kind_at.ensures.kind ∙ e));
  memory = tt;
}
