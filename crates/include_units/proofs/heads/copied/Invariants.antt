use Rattle.std.proofs.Common.{◌≡◌, take}
use Rattle.include_units.proofs.heads.copied.Given as goal

abbrev pub invariant-loop-token : goal.invariant-loop-token
invariant-loop-token l = l.out.items ≡ take l.token-index l.tokens
