use Rattle.std.proofs.Common.{◌≡◌}
use Rattle.edge_tests.proofs.ends.store_lists_its_files.Given as goal

abbrev pub invariant-loop-root : goal.invariant-loop-root
invariant-loop-root g l = l.store.faults ≡ 0
