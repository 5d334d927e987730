use Rattle.std.proofs.Common.{subst, sym}
use Rattle.c_parser.specs.Reading.{IsAtFront}
use Rattle.c_parser.proofs.Wholes.{front_is, type_fails}
use Rattle.c_parser.proofs.whole.name_of_type.Goals as goal

pub returns-in-Err-clause-place : goal.returns-in-Err-clause-place
returns-in-Err-clause-place c = subst IsAtFront (sym c.at_front.ensures) (front_is c.in-Err.stop)

pub returns-in-Err-clause-only : goal.returns-in-Err-clause-only
returns-in-Err-clause-only c = type_fails _ _ _ c.at_front.ensures c.in-Err.ensures.only
