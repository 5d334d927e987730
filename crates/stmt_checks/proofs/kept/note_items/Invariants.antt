use Rattle.std.proofs.Common.{length}
use Rattle.stmt_checks.proofs.Noting.{NotingItems}
use Rattle.stmt_checks.proofs.kept.note_items.Given as goal

abbrev pub invariant-items : goal.invariant-items
invariant-items l = NotingItems l.earlier l.was l.tokens l.items l.rest l.names l.changed

abbrev pub decreases-items : goal.decreases-items
decreases-items l = length l.rest
