use Rattle.c_literals.proofs.FloatingReads.{floating_read, floating_only}
use Rattle.c_literals.proofs.laws.floatings_are_constants.Goals as goal

pub returns-clause-read : goal.returns-clause-read
returns-clause-read c = floating_read

pub returns-clause-only : goal.returns-clause-only
returns-clause-only c = floating_only
