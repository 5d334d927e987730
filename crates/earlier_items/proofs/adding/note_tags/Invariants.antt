use Rattle.std.proofs.Common.{◌≡◌, length}
use Rattle.elab_state.specs.declared.wants.Wanted.{Wanted}
use Rattle.elab_state.specs.Wants.{answered}
use Rattle.earlier_items.specs.Before.{or_answer, tag}
use Rattle.earlier_items.proofs.adding.note_tags.Given as goal

abbrev pub invariant-entities : goal.invariant-entities
invariant-entities l = record {
  said : (q : Wanted) → or_answer (tag q l.rest) (answered l.known q) ≡ or_answer (tag q l.entities) (answered l.fn.known q);
  others : l.known.others ≡ l.fn.known.others;
}

abbrev pub decreases-entities : goal.decreases-entities
decreases-entities l = length l.rest
