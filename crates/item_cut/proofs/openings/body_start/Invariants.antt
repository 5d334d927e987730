use Rattle.std.proofs.Common.{length}
use Rattle.item_cut.proofs.Looking.{Looking}
use Rattle.item_cut.proofs.openings.body_start.Given as goal

abbrev pub invariant-tokens : goal.invariant-tokens
invariant-tokens l = Looking l.tokens l.progress l.at l.rest

abbrev pub decreases-tokens : goal.decreases-tokens
decreases-tokens l = length l.rest
