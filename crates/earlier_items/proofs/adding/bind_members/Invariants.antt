use Rattle.std.proofs.Common.{◌≡◌, length}
use Rattle.elab_state.specs.declared.wants.Wanted.{Wanted}
use Rattle.elab_state.specs.Wants.{answered}
use Rattle.earlier_items.specs.Before.{bound, members_only, or_answer}
use Rattle.earlier_items.proofs.adding.bind_members.Given as goal

abbrev pub invariant-bindings : goal.invariant-bindings
invariant-bindings l =
    (q : Wanted) → or_answer (members_only q.space (bound q l.rest)) (answered l.known q) ≡ or_answer (members_only q.space (bound q l.bindings)) (answered l.fn.known q)

abbrev pub decreases-bindings : goal.decreases-bindings
decreases-bindings l = length l.rest
