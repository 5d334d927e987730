use Rattle.stmt_parser.proofs.Balances.{statements_balanced}
use Rattle.stmt_parser.proofs.HeadBalances.{parts_balanced}
use Rattle.stmt_parser.proofs.laws.statements_are_balanced.Goals as goal

pub returns : goal.returns
returns c = statements_balanced c.parts_law.ensures parts_balanced
