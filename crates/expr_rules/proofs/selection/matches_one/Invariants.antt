use Rattle.std.proofs.Common.{◌≡◌, length}
use Rattle.expr_rules.specs.Selection.{matches_one}
use Rattle.expr_rules.proofs.selection.matches_one.Given as goal

abbrev pub invariant-loop-association : goal.invariant-loop-association
invariant-loop-association l = matches_one l.ty l.rest ≡ matches_one l.ty l.associations

abbrev pub decreases-loop-association : goal.decreases-loop-association
decreases-loop-association l = length l.rest
