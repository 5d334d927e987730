use Rattle.std.proofs.Common.{sym, ◌∙◌, ap}
use Rattle.c_parser.specs.Words.{declared_as}
use Rattle.c_parser.proofs.HeadWords.{not_declared}
use Rattle.c_parser.proofs.scope.Scope.declare.Goals as goal

pub returns-in_default : goal.returns-in_default
returns-in_default c =
    sym (ap (declared_as _ c.args.typedef) (sym c.at-kind.ensures.kind) ∙ not_declared _ c.args.typedef _ c.in_default.not-TypeName)
