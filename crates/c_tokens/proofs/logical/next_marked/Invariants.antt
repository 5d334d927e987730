-- The characters from `at` on are those of the units from `own` on; what lies between is removed.
use Rattle.std.proofs.Common.{◌≡◌, ◌≤◌, ◌-◌, length}
use Rattle.c_tokens.specs.Logical.{characters}
use Rattle.c_tokens.specs.Reading.{units, rest, KeepsBoundary}
use Rattle.c_tokens.proofs.logical.next_marked.Given as goal

abbrev pub invariant-loop-own : goal.invariant-loop-own
invariant-loop-own l = record {
  same : characters l.at l.own (units l.text l.own) ≡ rest l.text l.at;
  begins : l.at ≤ l.own;
  within : l.own ≤ length l.text;
  boundary : KeepsBoundary l.text l.at l.own;
}

abbrev pub decreases-loop-own : goal.decreases-loop-own
decreases-loop-own l = length l.text - l.own
