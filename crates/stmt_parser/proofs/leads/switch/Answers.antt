use Rattle.std.proofs.Common.{◌∙◌, sym, ap, subst, ◌+◌}
use Rattle.stmt_parser.specs.Found.{FoundLead}
use Rattle.stmt_parser.specs.InForce.{inside}
use Rattle.stmt_parser.proofs.LeadsRead.{switch_fails, switch_found}
use Rattle.stmt_parser.proofs.PartsRead.{test_expression}
use Rattle.stmt_parser.proofs.leads.switch.Goals as goal

pub returns-in-Err : goal.returns-in-Err
returns-in-Err c = record {
  found = tt;
  past = tt;
  fails = switch_fails c.requires.law _ _ c.requires.kind _ c.in-Err.ensures.only;
}

pub returns-in-Ok-switch : goal.returns-in-Ok-switch
returns-in-Ok-switch c = record {
  found = subst (λ l. FoundLead c.args.scope c.args.at l (c.in-Ok.found.1 + 1)) (sym c.in-Ok-switch.ensures) (switch_found _ _ c.requires.kind _ _ c.in-Ok.ensures.found);
  past = c.in-Ok-past_expression.ensures.past _ (test_expression _ _ _ _ c.in-Ok.ensures.found) ∙ sym (ap (inside c.args.scope) c.in-Ok-switch.ensures);
  fails = tt;
}
