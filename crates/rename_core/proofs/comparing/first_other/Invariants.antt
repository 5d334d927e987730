use Rattle.std.proofs.Common.{◌≡◌, length}
use Rattle.rename_core.specs.Clashes.{first_other}
use Rattle.rename_core.proofs.comparing.first_other.Given as goal

abbrev pub invariant-occs : goal.invariant-occs
invariant-occs l = first_other l.plan l.rest l.others ≡ first_other l.plan l.before l.after

abbrev pub decreases-occs : goal.decreases-occs
decreases-occs l = length l.rest
