use Rattle.std.proofs.Common.{rules}
use Rattle.c_literals.proofs.Wrapping.{into_unsigned, into_overflowed, into_signed}
use Rattle.c_literals.proofs.ranges.into_type.Goals as goal

pub returns-then-not-is_signed : goal.returns-then-not-is_signed
returns-then-not-is_signed c = search (rules, into_unsigned)

pub returns-then-overflowed : goal.returns-then-overflowed
returns-then-overflowed c = search (rules, into_overflowed)

pub returns : goal.returns
returns c = search (rules, into_signed)
