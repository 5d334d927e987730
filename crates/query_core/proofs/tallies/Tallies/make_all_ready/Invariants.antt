use Rattle.std.proofs.Common.{◌≡◌, ℕ, length}
use Rattle.query_core.specs.Tallies.{tally_at}
use Rattle.query_core.proofs.Counting.{Readying}
use Rattle.query_core.proofs.tallies.Tallies.make_all_ready.Given as goal

abbrev pub invariant-nodes : goal.invariant-nodes
invariant-nodes l = record {
  same : (j : ℕ) → tally_at l.self.tallies j ≡ tally_at l.fn.self.tallies j;
  unread : l.self.unread ≡ l.fn.self.unread;
  ready : Readying l.self l.nodes l.rest l.more;
}

abbrev pub decreases-nodes : goal.decreases-nodes
decreases-nodes l = length l.rest
