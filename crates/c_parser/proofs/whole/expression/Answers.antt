use Rattle.std.proofs.Common.{subst, sym}
use Rattle.c_parser.specs.Reading.{IsAtFront}
use Rattle.c_parser.proofs.Wholes.{front_is}
use Rattle.c_parser.proofs.whole.expression.Goals as goal

pub returns-in-Err-clause-place : goal.returns-in-Err-clause-place
returns-in-Err-clause-place c = subst IsAtFront (sym c.at_front.ensures) (front_is c.in-Err.stop)
