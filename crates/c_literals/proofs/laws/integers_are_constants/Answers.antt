use Rattle.c_literals.proofs.IntegerReads.{integer_read, integer_only}
use Rattle.c_literals.proofs.laws.integers_are_constants.Goals as goal

pub returns-clause-read : goal.returns-clause-read
returns-clause-read c = integer_read

pub returns-clause-only : goal.returns-clause-only
returns-clause-only c text value e = let r = integer_only text value e in (r.base, r.digits, r.suffix, r.is, r.value)
