use Rattle.std.proofs.Common.{◌≡◌, length}
use Rattle.expr_rules.specs.Selection.{first_of, is_match}
use Rattle.expr_rules.proofs.selection.first_match.Given as goal

abbrev pub invariant-loop-association : goal.invariant-loop-association
invariant-loop-association l = first_of (is_match l.ty) l.rest l.left ≡ first_of (is_match l.ty) l.associations l.parts

abbrev pub decreases-loop-association : goal.decreases-loop-association
decreases-loop-association l = length l.rest
