use Rattle.std.proofs.Common.{◌≡◌, ◌+◌}
use Rattle.query_tests.proofs.sheet.edit_under.Given as goal

abbrev pub invariant-loop-next : goal.invariant-loop-next
invariant-loop-next g l = l.graph.revision ≡ l.fn.graph.revision + l.next-index
