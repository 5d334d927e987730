use Rattle.std.proofs.Common.{sym, ap, subst, ◌+◌}
use Rattle.stmt_parser.specs.Found.{FoundLead}
use Rattle.stmt_parser.specs.InForce.{inside}
use Rattle.stmt_parser.proofs.LeadsRead.{label_found}
use Rattle.stmt_parser.proofs.leads.label.Goals as goal

pub returns : goal.returns
returns c = record {
  found = subst (λ l. FoundLead c.args.scope.now c.args.at l (c.args.at + 2)) (sym c.label.ensures) (label_found _ _ c.requires.kind);
  past = ap (inside c.args.scope.now) c.label.ensures;
}
