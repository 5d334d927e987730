use Rattle.std.proofs.Common.{◌≡◌, length}
use Rattle.elab_state.specs.declared.wants.Wanted.{Wanted}
use Rattle.elab_state.specs.Wants.{answered}
use Rattle.earlier_items.specs.Before.{bound, or_answer}
use Rattle.earlier_items.proofs.adding.bind_all.Given as goal

abbrev pub invariant-bindings : goal.invariant-bindings
invariant-bindings l = record {
  said : (q : Wanted) → or_answer (bound q l.rest) (answered l.known q) ≡ or_answer (bound q l.bindings) (answered l.fn.known q);
  others : l.known.others ≡ l.fn.known.others;
}

abbrev pub decreases-bindings : goal.decreases-bindings
decreases-bindings l = length l.rest
