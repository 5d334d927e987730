use Rattle.std.proofs.Common.{◌≡◌, take}
use Rattle.macro_expand.specs.Spelling.{sources}
use Rattle.macro_expand.proofs.operands.sources.Given as goal

abbrev pub invariant-loop-token : goal.invariant-loop-token
invariant-loop-token l = l.out.items ≡ sources (take l.token-index l.tokens)
