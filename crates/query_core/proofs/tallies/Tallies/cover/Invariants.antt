use Rattle.std.proofs.Common.{◌≡◌, ℕ, ◌≤◌, ◌+◌, ◌-◌, length}
use Rattle.query_core.specs.Tallies.{tally_at}
use Rattle.query_core.proofs.tallies.Tallies.cover.Given as goal

abbrev pub invariant-places : goal.invariant-places
invariant-places l = record {
  same : (j : ℕ) → tally_at l.self.tallies j ≡ tally_at l.fn.self.tallies j;
  unread : l.self.unread ≡ l.fn.self.unread;
  long : length l.fn.self.tallies ≤ length l.self.tallies;
}

abbrev pub decreases-places : goal.decreases-places
decreases-places l = l.node + 1 - length l.self.tallies
