use Rattle.std.proofs.Common.{drop}
use Rattle.stmt_checks.proofs.folding.fold.Given as goal
use Rattle.stmt_checks.specs.Folding.{Goes, folded_of}

abbrev pub invariant-items : goal.invariant-items
invariant-items l = Goes l.tokens (folded_of l.fn.added) l.items l.folding (drop l.item-index l.items)
