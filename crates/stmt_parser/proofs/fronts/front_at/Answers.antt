use Rattle.std.proofs.Common.{◌∙◌, sym, ap}
use Rattle.stmt_parser.specs.Fronts.{is_marked}
use Rattle.stmt_parser.proofs.FrontLemmas.{unmarked}
use Rattle.stmt_parser.proofs.fronts.front_at.Goals as goal

pub returns-in_default : goal.returns-in_default
returns-in_default c = (
  sym c.labels_at.ensures ∙ c.if-labels_at.false,
  ap is_marked (sym c.kind_at.ensures.kind)
      ∙ unmarked
      _
      c.in_default.not-Case
      c.in_default.not-Default
      c.in_default.not-If
      c.in_default.not-Switch
      c.in_default.not-While
      c.in_default.not-For
      c.in_default.not-Do
      c.in_default.not-OpenBrace
      c.in_default.not-Goto
      c.in_default.not-Continue
      c.in_default.not-Break
      c.in_default.not-Return,
)
