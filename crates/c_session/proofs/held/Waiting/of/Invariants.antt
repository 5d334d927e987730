use Rattle.std.proofs.Common.{◌≡◌, ℕ, List, None}
use Rattle.std.specs.Vec.Iter.{into_iter_items}
use Rattle.c_session.specs.Renewal.{held_at, held_of}
use Rattle.c_session.proofs.held.Waiting.of.Given as goal

abbrev pub invariant-units : goal.invariant-units
invariant-units l = (q : List ℕ) → held_of l.unit-iterator.rest.items (into_iter_items l.grounds) q (held_at l.waiting q) ≡ held_of l.fn.units.items l.fn.grounds.items q None
