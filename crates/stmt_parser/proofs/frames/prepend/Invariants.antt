use Rattle.std.proofs.Common.{◌≡◌, length}
use Rattle.tree_data.specs.Stated.{leads_of}
use Rattle.tree_data.specs.Statements.{Statement, led}
use Rattle.stmt_parser.specs.Frames.{led_back}
use Rattle.stmt_parser.proofs.frames.prepend.Given as goal

abbrev pub invariant-leads : goal.invariant-leads
invariant-leads l = (s : Statement) → led (leads_of l.rest.items) (led_back (leads_of l.behind.items) s) ≡ led (leads_of l.fn.leads.items) (led_back (leads_of l.fn.behind.items) s)

abbrev pub decreases-leads : goal.decreases-leads
decreases-leads l = length l.rest.items
