use Rattle.std.proofs.Common.{◌≡◌, drop, length}
use Rattle.scope_tables.specs.Scopes.{or_outside}
use Rattle.elab_state.specs.declared.wants.Wanted.{Wanted}
use Rattle.earlier_items.specs.Before.{tag}
use Rattle.earlier_items.proofs.tags.add_tags.Given as goal

abbrev pub invariant-entities : goal.invariant-entities
invariant-entities l = record {
  place : drop l.at l.entities ≡ l.rest;
  tags : (q : Wanted) → or_outside (tag q l.rest) (tag q l.tags.items) ≡ or_outside (tag q l.entities) (tag q l.fn.tags.items);
}

abbrev pub decreases-entities : goal.decreases-entities
decreases-entities l = length l.rest
