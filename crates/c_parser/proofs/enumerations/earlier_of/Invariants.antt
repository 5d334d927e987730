use Rattle.std.proofs.Common.{◌-◌, length}
use Rattle.c_parser.proofs.Enumerated.{Knowing}
use Rattle.c_parser.proofs.enumerations.earlier_of.Given as goal

abbrev pub invariant-tokens : goal.invariant-tokens
invariant-tokens l = Knowing l.tokens l.earlier.items l.latest.items l.at

abbrev pub decreases-tokens : goal.decreases-tokens
decreases-tokens l = length l.tokens - l.at
