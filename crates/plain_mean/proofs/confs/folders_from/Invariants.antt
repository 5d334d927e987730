use Rattle.std.proofs.Common.{◌≡◌, ◌++◌, length}
use Rattle.plain_mean.specs.Confs.{folders_from}
use Rattle.plain_mean.proofs.confs.folders_from.Given as goal

abbrev pub invariant-folders : goal.invariant-folders
invariant-folders l = l.out.items ++ folders_from l.base l.rest ≡ folders_from l.fn.base l.fn.folders

abbrev pub decreases-folders : goal.decreases-folders
decreases-folders l = length l.rest
