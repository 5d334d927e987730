use Rattle.std.proofs.Common.{◌∙◌, sym, ap}
use Rattle.stmt_parser.specs.Reading.{ends_expression}
use Rattle.stmt_parser.proofs.PartsRead.{nothing_found, nothing_only, something_found, something_only, something_fails}
use Rattle.stmt_parser.proofs.parts.optional.Goals as goal

pub returns-then-ends_expression : goal.returns-then-ends_expression
returns-then-ends_expression c = record {
  found = nothing_found _ _ c.requires.inside;
  only = nothing_only c.requires.law _ _ (ap ends_expression (sym c.kind_at.ensures.kind) ∙ sym c.ends_expression.ensures ∙ c.if-ends_expression.true);
}

pub returns-in-Ok : goal.returns-in-Ok
returns-in-Ok c = record {
  found = something_found _ _ _ _ c.in-Ok.ensures.found;
  only = something_only _ _ (ap ends_expression (sym c.kind_at.ensures.kind) ∙ sym c.ends_expression.ensures ∙ c.if-ends_expression.false) _ _ c.in-Ok.ensures.only;
}

pub returns-in-Err : goal.returns-in-Err
returns-in-Err c = record {
  found = tt;
  only = something_fails _ _ (ap ends_expression (sym c.kind_at.ensures.kind) ∙ sym c.ends_expression.ensures ∙ c.if-ends_expression.false) _ c.in-Err.ensures.only;
}
