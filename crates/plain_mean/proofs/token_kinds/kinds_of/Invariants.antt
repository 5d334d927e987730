use Rattle.std.proofs.Common.{◌≡◌, ◌++◌, length}
use Rattle.plain_mean.specs.TokenKinds.{kinds_of}
use Rattle.plain_mean.proofs.token_kinds.kinds_of.Given as goal

abbrev pub invariant-turn : goal.invariant-turn
invariant-turn l = record {
  made : l.kinds.items ++ kinds_of l.rest ≡ kinds_of l.fn.tokens;
}

abbrev pub decreases-turn : goal.decreases-turn
decreases-turn l = length l.rest
