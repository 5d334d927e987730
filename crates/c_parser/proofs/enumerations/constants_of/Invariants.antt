use Rattle.std.proofs.Common.{◌-◌, length}
use Rattle.c_parser.proofs.Enumerated.{Marked}
use Rattle.c_parser.proofs.enumerations.constants_of.Given as goal

abbrev pub invariant-tokens : goal.invariant-tokens
invariant-tokens l = Marked l.tokens l.constants.items l.levels.items l.at

abbrev pub decreases-tokens : goal.decreases-tokens
decreases-tokens l = length l.tokens - l.at
