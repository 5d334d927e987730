use Rattle.std.proofs.Common.{◌≡◌, ◌+◌, ◌++◌, length}
use Rattle.include_units.specs.Texts.{source_tokens}
use Rattle.include_units.proofs.texts.add_tokens.Given as goal

abbrev pub invariant-loop-token : goal.invariant-loop-token
invariant-loop-token l = (l.out ++ source_tokens l.name l.number l.rest ≡ l.fn.out ++ source_tokens l.fn.name l.fn.at l.fn.tokens) × (l.number + length l.rest ≡ l.fn.at + length l.fn.tokens)

abbrev pub decreases-loop-token : goal.decreases-loop-token
decreases-loop-token l = length l.rest
