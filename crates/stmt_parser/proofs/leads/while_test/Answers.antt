use Rattle.std.proofs.Common.{◌∙◌, sym, ap, subst, ◌+◌}
use Rattle.stmt_parser.specs.Found.{FoundLead}
use Rattle.stmt_parser.specs.InForce.{inside}
use Rattle.stmt_parser.proofs.LeadsRead.{while_fails, while_found}
use Rattle.stmt_parser.proofs.PartsRead.{test_expression}
use Rattle.stmt_parser.proofs.leads.while_test.Goals as goal

pub returns-in-Err : goal.returns-in-Err
returns-in-Err c = record {
  found = tt;
  past = tt;
  fails = while_fails c.requires.law _ _ c.requires.kind _ c.in-Err.ensures.only;
}

pub returns-in-Ok-while_test : goal.returns-in-Ok-while_test
returns-in-Ok-while_test c = record {
  found = subst (λ l. FoundLead c.args.scope c.args.at l (c.in-Ok.found.1 + 1)) (sym c.in-Ok-while_test.ensures) (while_found _ _ c.requires.kind _ _ c.in-Ok.ensures.found);
  past = c.in-Ok-past_expression.ensures.past _ (test_expression _ _ _ _ c.in-Ok.ensures.found) ∙ sym (ap (inside c.args.scope) c.in-Ok-while_test.ensures);
  fails = tt;
}
