use Rattle.std.proofs.Common.{◌≡◌}
use Rattle.edge_pipe.proofs.run.Given as goal

abbrev pub invariant-loop : goal.invariant-loop
invariant-loop l = record { wire : l.wire ≡ l.fn.wire; errs : l.errs ≡ l.fn.errs }
