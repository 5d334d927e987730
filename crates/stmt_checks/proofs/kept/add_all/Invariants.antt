use Rattle.std.proofs.Common.{length}
use Rattle.stmt_checks.proofs.Taking.{AddsAll}
use Rattle.stmt_checks.proofs.kept.add_all.Given as goal

abbrev pub invariant-items : goal.invariant-items
invariant-items l = AddsAll l.tokens l.fn.owned.folding l.fn.owned.parts.items l.items l.owned.folding l.owned.parts.items l.rest

abbrev pub decreases-items : goal.decreases-items
decreases-items l = length l.rest
