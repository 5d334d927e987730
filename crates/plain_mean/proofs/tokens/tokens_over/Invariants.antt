use Rattle.std.proofs.Common.{◌≡◌}
use Rattle.plain_mean.proofs.Told.{IsAsking}
use Rattle.plain_mean.proofs.tokens.tokens_over.Given as goal

abbrev pub invariant-asks : goal.invariant-asks
invariant-asks l = IsAsking l.fn.lexings l.conf l.asked.items l.unit.answers × (l.unit.conf ≡ l.conf) × (l.lexings ≡ l.fn.lexings)
