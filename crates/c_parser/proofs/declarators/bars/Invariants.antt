use Rattle.std.proofs.Common.{◌≡◌, ◌≤◌, ◌-◌, false}
use Rattle.c_parser.specs.Enumerations.{bars}
use Rattle.c_parser.proofs.declarators.bars.Given as goal

abbrev pub invariant-tokens : goal.invariant-tokens
invariant-tokens l =
    record {
      none : bars l.kinds l.from l.at ≡ false;
      forth : l.from ≤ l.at;
    }

abbrev pub decreases-tokens : goal.decreases-tokens
decreases-tokens l = l.to - l.at
