use Rattle.std.proofs.Common.{◌≡◌, None, length}
use Rattle.elab_state.specs.declared.wants.Wanted.{Wanted}
use Rattle.earlier_items.specs.Before.{bound, members_only}
use Rattle.earlier_items.proofs.tags.are_other.Given as goal

abbrev pub invariant-bindings : goal.invariant-bindings
invariant-bindings l = ((q : Wanted) → members_only q.space (bound q l.rest) ≡ None) → (q : Wanted) → members_only q.space (bound q l.bindings) ≡ None

abbrev pub decreases-bindings : goal.decreases-bindings
decreases-bindings l = length l.rest
