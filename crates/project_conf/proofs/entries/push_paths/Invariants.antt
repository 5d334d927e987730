use Rattle.std.proofs.Common.{◌≡◌, ◌++◌, length}
use Rattle.project_conf.proofs.entries.push_paths.Given as goal

abbrev pub invariant-loop-path : goal.invariant-loop-path
invariant-loop-path l = l.out.items ++ l.rest ≡ l.fn.out.items ++ l.paths

abbrev pub decreases-loop-path : goal.decreases-loop-path
decreases-loop-path l = length l.rest
