use Rattle.std.proofs.Common.{◌≡◌, ◌≤◌, ◌+◌, ◌-◌, ◌*◌, length}
use Rattle.tree_data.specs.Stated.{leads_of, items_of}
use Rattle.stmt_parser.specs.Frames.{Pending}
use Rattle.stmt_parser.proofs.OutsideRead.{Outside}
use Rattle.stmt_parser.proofs.StatementsRead.{Blocking}
use Rattle.stmt_parser.proofs.statements.+statements.Given as goal

abbrev pub decreases-item : goal.decreases-item
decreases-item l = 8 * (length l.scope.kinds - l.at) + 7

abbrev pub decreases-statement : goal.decreases-statement
decreases-statement l = 8 * (length l.scope.now.kinds - l.at) + 6

abbrev pub decreases-step_at : goal.decreases-step_at
decreases-step_at l = 8 * (length l.scope.kinds - l.at) + 5

abbrev pub decreases-core : goal.decreases-core
decreases-core l = 8 * (length l.scope.kinds - l.at) + 3

abbrev pub decreases-block : goal.decreases-block
decreases-block l = 8 * (length l.scope.now.kinds - l.at) + 1

abbrev pub invariant-statement-steps : goal.invariant-statement-steps
invariant-statement-steps l =
    record {
      pending : Pending l.scope l.at l.frames.items (leads_of l.leads.items) l.inner l.place;
      outside : Outside l.scope l.at l.inner l.place l.outer;
      kinds : l.inner.kinds ≡ l.scope.kinds;
      within : l.place ≤ length l.scope.kinds;
    }

abbrev pub decreases-statement-steps : goal.decreases-statement-steps
decreases-statement-steps l = length l.scope.kinds - l.place

abbrev pub invariant-block-items : goal.invariant-block-items
invariant-block-items l = Blocking l.scope l.at (items_of l.items.items) l.inner l.place

abbrev pub decreases-block-items : goal.decreases-block-items
decreases-block-items l = length l.scope.kinds - l.place
