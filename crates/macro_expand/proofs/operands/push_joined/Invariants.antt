use Rattle.std.proofs.Common.{◌≡◌, ◌++◌, true, length, string_bytes}
use Rattle.macro_expand.specs.Spelling.{joined}
use Rattle.macro_expand.proofs.operands.push_joined.Given as goal

abbrev pub invariant-loop-token : goal.invariant-loop-token
invariant-loop-token l = string_bytes l.out ++ joined l.first l.rest ≡ string_bytes l.fn.out ++ joined true l.tokens

abbrev pub decreases-loop-token : goal.decreases-loop-token
decreases-loop-token l = length l.rest
