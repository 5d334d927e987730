use Rattle.std.proofs.Common.{◌≡◌, length}
use Rattle.elab_state.specs.Looks.{reached_all}
use Rattle.elab_state.specs.Ties.{leads}
use Rattle.elab_state.proofs.reached.reach_all.Given as goal

abbrev pub invariant-members : goal.invariant-members
invariant-members l = reached_all (leads l.through) l.reached l.rest ≡ reached_all (leads l.through) l.fn.reached l.members

abbrev pub decreases-members : goal.decreases-members
decreases-members l = length l.rest
