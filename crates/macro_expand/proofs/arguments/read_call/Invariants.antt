use Rattle.std.proofs.Common.{◌≡◌, ◌≤◌, ◌-◌, drop, length}
use Rattle.macro_expand.specs.Arguments.{called}
use Rattle.macro_expand.specs.Ties.Reading.{reads}
use Rattle.macro_expand.proofs.arguments.read_call.Given as goal

abbrev pub invariant-tokens : goal.invariant-tokens
invariant-tokens l = record {
  goes : reads l.def l.at l.reading (drop l.at l.rest) ≡ called l.def l.rest;
  depth : l.reading.depth ≤ l.at;
}

abbrev pub decreases-tokens : goal.decreases-tokens
decreases-tokens l = length l.rest - l.at
