use Rattle.std.proofs.Common.{◌≡◌, ℕ, ◌+◌, ◌-◌, ◌≤◌, length}
use Rattle.query_core.specs.Readers.{row_at}
use Rattle.query_core.proofs.readers.cover_row.Given as goal

abbrev pub invariant-places : goal.invariant-places
invariant-places l = record {
  same : (i : ℕ) → row_at l.rows.items i ≡ row_at l.fn.rows.items i;
  long : length l.fn.rows.items ≤ length l.rows.items;
}

abbrev pub decreases-places : goal.decreases-places
decreases-places l = l.node + 1 - length l.rows.items
