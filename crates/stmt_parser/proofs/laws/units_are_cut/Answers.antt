use Rattle.stmt_parser.proofs.Cuts.{units_cut}
use Rattle.stmt_parser.proofs.HeadBalances.{parts_balanced, heads_quiet}
use Rattle.stmt_parser.proofs.laws.units_are_cut.Goals as goal

pub returns : goal.returns
returns c = units_cut c.parts_law.ensures parts_balanced heads_quiet
