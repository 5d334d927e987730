use Rattle.std.proofs.Common.{ap, sym, ◌∙◌}
use Rattle.c_parser.specs.Kinds.{is_suffix}
use Rattle.c_parser.proofs.Openings.{size_stops}
use Rattle.c_parser.proofs.expressions.sized.Goals as goal

pub returns-then-is_suffix-clause-none : goal.returns-then-is_suffix-clause-none
returns-then-is_suffix-clause-none c =
    size_stops
    _
    _
    _
    _
    c.requires.sized
    (ap is_suffix (sym c.kind_at.ensures.kind) ∙ sym c.is_suffix.ensures ∙ c.if-is_suffix.true)
