use Rattle.std.proofs.Common.{◌∙◌, sym, ap, subst, ◌+◌}
use Rattle.stmt_parser.specs.Found.{FoundLead}
use Rattle.stmt_parser.specs.InForce.{inside}
use Rattle.c_parser.specs.declared.answers.Stop.TheVariants as stop
use Rattle.stmt_parser.proofs.LeadsRead.{case_fails, case_uncoloned, case_found}
use Rattle.stmt_parser.proofs.leads.case.Goals as goal

pub returns-in-Err : goal.returns-in-Err
returns-in-Err c = record {
  found = tt;
  past = tt;
  fails = case_fails c.requires.law _ _ c.requires.kind _ c.in-Err.ensures.only;
}

pub returns-in_default : goal.returns-in_default
returns-in_default c = record {
  found = tt;
  past = tt;
  fails = case_uncoloned c.requires.law _ _ c.requires.kind _ _ c.in-Ok.ensures.only (λ k. c.in_default.not-Colon (c.kind_at.ensures.kind ∙ k)) (stop.Syntax 0);
}

pub returns-in-Ok-case : goal.returns-in-Ok-case
returns-in-Ok-case c = record {
  found = subst (λ l. FoundLead c.args.scope c.args.at l (c.in-Ok.found.1 + 1)) (sym c.in-Ok-case.ensures) (case_found _ _ c.requires.kind _ _ c.in-Ok.ensures.found (sym c.in-Colon.ensures.kind) c.in-Colon.ensures.inside);
  past = c.in-Ok-past_expression.ensures.past _ c.in-Ok.ensures.found.reads.1 ∙ sym (ap (inside c.args.scope) c.in-Ok-case.ensures);
  fails = tt;
}
