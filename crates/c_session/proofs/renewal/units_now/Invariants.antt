use Rattle.std.proofs.Common.{◌≡◌, length}
use Rattle.c_session.specs.Renewal.{held_at}
use Rattle.c_session.proofs.Passing.{Passes}
use Rattle.c_session.proofs.Seeing.{SeenSoFar}
use Rattle.c_session.proofs.renewal.units_now.Given as goal

abbrev pub invariant-paths : goal.invariant-paths
invariant-paths g l = record {
  passes : Passes (held_at l.fn.waiting) l.fn.changes.prior l.fn.changes.now l.fn.reading l.fn.paths l.fn.steps (held_at l.waiting) l.rest l.standing.units.items l.standing.grounds.items l.steps;
  changes : l.changes ≡ l.fn.changes;
  lexings : l.lexings ≡ l.fn.lexings;
  seen : SeenSoFar (held_at l.fn.waiting) l.fn.paths l.rest l.standing.units.items l.standing.has_new l.standing.news;
}

abbrev pub decreases-paths : goal.decreases-paths
decreases-paths g l = length l.rest
