use Rattle.std.proofs.Common.{◌≡◌}
use Rattle.edge_folder.proofs.show.Given as goal

abbrev pub invariant-loop-path : goal.invariant-loop-path
invariant-loop-path l = l.store ≡ l.fn.store
