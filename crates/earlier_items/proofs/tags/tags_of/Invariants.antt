use Rattle.std.proofs.Common.{◌≡◌, length}
use Rattle.scope_tables.specs.Scopes.{or_outside}
use Rattle.elab_state.specs.declared.wants.Wanted.{Wanted}
use Rattle.earlier_items.specs.Before.{before, members_only, tag}
use Rattle.earlier_items.proofs.tags.tags_of.Given as goal

abbrev pub invariant-heads : goal.invariant-heads
invariant-heads l = (q : Wanted) → members_only q.space (before l.heads q) ≡ members_only q.space (or_outside (before l.rest q) (tag q l.tags.items))

abbrev pub decreases-heads : goal.decreases-heads
decreases-heads l = length l.rest
