use Rattle.std.proofs.Common.{◌≡◌}
use Rattle.include_units.specs.Stack.{rest_by, reading_left}
use Rattle.include_units.proofs.stack.read_on.Given as goal

abbrev pub invariant-steps : goal.invariant-steps
invariant-steps l = rest_by l.files (reading_left l.folders l.fn.reading) ≡ rest_by l.files (reading_left l.folders l.reading)
