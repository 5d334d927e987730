-- The tokens that are left are the same exactly where all are.
use Rattle.std.proofs.Common.{◌≡◌, ◌↔◌, map, length}
use Rattle.macro_table.specs.Same.{inner_token}
use Rattle.macro_table.proofs.same.same_tokens.Given as goal

abbrev pub invariant-loop-x : goal.invariant-loop-x
invariant-loop-x l = (map inner_token l.left ≡ map inner_token l.right) ↔ (map inner_token l.a ≡ map inner_token l.b)

abbrev pub decreases-loop-x : goal.decreases-loop-x
decreases-loop-x l = length l.left
