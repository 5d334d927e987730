use Rattle.stmt_checks.proofs.TakenOver.{taken_as}
use Rattle.stmt_checks.proofs.folding.Folding.add_firm.Goals as goal

pub returns-clause-added : goal.returns-clause-added
returns-clause-added c = taken_as c.put_head.result (λ adds. record { h = c.in-Some.head; adds = adds }) c.put_head.ensures.added
