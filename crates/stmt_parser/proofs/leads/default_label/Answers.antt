use Rattle.std.proofs.Common.{◌∙◌, sym, ap, subst, ◌+◌}
use Rattle.stmt_parser.specs.Found.{FoundLead}
use Rattle.stmt_parser.specs.InForce.{inside}
use Rattle.c_parser.specs.declared.answers.Stop.TheVariants as stop
use Rattle.stmt_parser.proofs.LeadsRead.{default_fails, default_found}
use Rattle.stmt_parser.proofs.leads.default_label.Goals as goal

pub returns-in_default : goal.returns-in_default
returns-in_default c = record {
  found = tt;
  past = tt;
  fails = default_fails c.requires.law _ _ c.requires.kind (λ k. c.in_default.not-Colon (c.kind_at.ensures.kind ∙ k)) (stop.Syntax 0);
}

pub returns : goal.returns
returns c = record {
  found = subst (λ l. FoundLead c.args.scope.now c.args.at l (c.args.at + 2)) (sym c.default_label.ensures) (default_found _ _ c.requires.kind (sym c.in-Colon.ensures.kind) c.in-Colon.ensures.inside);
  past = ap (inside c.args.scope.now) c.default_label.ensures;
  fails = tt;
}
