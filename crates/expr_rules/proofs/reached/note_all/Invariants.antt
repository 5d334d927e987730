use Rattle.std.proofs.Common.{◌≡◌, length}
use Rattle.expr_rules.specs.Reached.{noted_all}
use Rattle.expr_rules.proofs.reached.note_all.Given as goal

abbrev pub invariant-members : goal.invariant-members
invariant-members l = noted_all l.reached l.rest ≡ noted_all l.fn.reached l.members

abbrev pub decreases-members : goal.decreases-members
decreases-members l = length l.rest
