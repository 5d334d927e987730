use Rattle.std.proofs.Common.{◌≡◌, length}
use Rattle.expr_rules.specs.Selection.{are_apart}
use Rattle.expr_rules.proofs.selection.are_apart.Given as goal

abbrev pub invariant-loop-association : goal.invariant-loop-association
invariant-loop-association l = are_apart l.rest ≡ are_apart l.associations

abbrev pub decreases-loop-association : goal.decreases-loop-association
decreases-loop-association l = length l.rest
