use Rattle.std.proofs.Common.{ℕ, ◌+◌, ◌*◌, List, length, count_by, is_some}
use Rattle.query_core.specs.Answering.{IsNumbered}
use Rattle.query_core.specs.Stored.{stored}
use Rattle.query_core.specs.Tallies.{AreTallied}
use Rattle.query_core.specs.Removal.{Removing}
use Rattle.query_core.proofs.removal.remove_unread.Given as goal

abbrev pub invariant-unread : goal.invariant-unread
invariant-unread g l = (roots : List ℕ) (c : ℕ) → AreTallied l.fn.nodes.slots l.fn.tallies roots → IsNumbered g.K.PartialEq.eq (stored l.fn.nodes.slots l.fn.numbers.entries c)
    → Removing g.K.PartialEq.eq roots c l.fn.nodes.slots l.nodes.slots l.numbers.entries l.tallies

abbrev pub decreases-unread : goal.decreases-unread
decreases-unread g l = count_by is_some l.nodes.slots * (length l.tallies.tallies + 1) + length l.tallies.unread
