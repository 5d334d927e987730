use Rattle.std.proofs.Common.{◌≡◌, ◌++◌, length}
use Rattle.std.specs.List.{filter}
use Rattle.plain_mean.specs.Shown.{is_unit_of}
use Rattle.plain_mean.proofs.lists.chosen.Given as goal

abbrev pub invariant-paths : goal.invariant-paths
invariant-paths l = l.out.items ++ filter (is_unit_of l.docs l.reading) l.rest ≡ filter (is_unit_of l.fn.docs l.fn.reading) l.fn.paths

abbrev pub decreases-paths : goal.decreases-paths
decreases-paths l = length l.rest
