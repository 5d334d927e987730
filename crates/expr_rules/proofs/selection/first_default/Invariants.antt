use Rattle.std.proofs.Common.{◌≡◌, length}
use Rattle.expr_rules.specs.Selection.{first_of, is_default}
use Rattle.expr_rules.proofs.selection.first_default.Given as goal

abbrev pub invariant-loop-association : goal.invariant-loop-association
invariant-loop-association l = first_of is_default l.rest l.left ≡ first_of is_default l.associations l.parts

abbrev pub decreases-loop-association : goal.decreases-loop-association
decreases-loop-association l = length l.rest
