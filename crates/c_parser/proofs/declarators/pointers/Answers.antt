use Rattle.std.proofs.Common.{◌∙◌}
use Rattle.c_parser.proofs.Types.{pointers_end}
use Rattle.c_parser.proofs.declarators.pointers.Goals as goal

pub returns-in_default : goal.returns-in_default
returns-in_default c = record {
  found = pointers_end _ _ _ _ c.pointers.invariant (λ e. c.in_default.not-Star (c.kind_at.ensures.kind ∙ e));
  memory = tt;
}
