use Rattle.std.proofs.Common.{◌-◌}
use Rattle.c_parser.proofs.Enumerated.{Passes}
use Rattle.c_parser.proofs.scope.Scope.past.Given as goal

abbrev pub invariant-tokens : goal.invariant-tokens
invariant-tokens l = Passes l.fn.self l.from l.to l.scope l.at

abbrev pub decreases-tokens : goal.decreases-tokens
decreases-tokens l = l.to - l.at
