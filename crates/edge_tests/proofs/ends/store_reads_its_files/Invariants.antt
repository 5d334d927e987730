use Rattle.std.proofs.Common.{◌≤◌}
use Rattle.edge_tests.proofs.ends.store_reads_its_files.Given as goal

abbrev pub invariant-loop-path : goal.invariant-loop-path
invariant-loop-path g l = l.store.faults ≤ l.path-index
