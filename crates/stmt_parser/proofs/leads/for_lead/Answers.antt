use Rattle.std.proofs.Common.{◌∙◌}
use Rattle.c_parser.specs.declared.answers.Stop.TheVariants as stop
use Rattle.stmt_parser.proofs.LeadsRead.{for_unopened}
use Rattle.stmt_parser.proofs.leads.for_lead.Goals as goal

pub returns-in_default : goal.returns-in_default
returns-in_default c = record {
  found = tt;
  past = tt;
  fails = for_unopened c.requires.law _ _ c.requires.kind (λ k. c.in_default.not-OpenParen (c.kind_at.ensures.kind ∙ k)) (stop.Syntax 0);
}
