use Rattle.std.proofs.Common.{◌≡◌, ◌⊎◌, true, length}
use Rattle.query_core.specs.Lists.{Has}
use Rattle.query_core.specs.Readers.{is_live, row_at}
use Rattle.query_core.specs.declared.readers.Reader.{Reader}
use Rattle.query_core.proofs.readers.Readers.live_of.Given as goal

abbrev pub invariant-readers : goal.invariant-readers
invariant-readers l = (e : Reader) → Has (row_at l.self l.node).readers e → is_live l.self e ≡ true → Has l.rest e ⊎ Has l.live.items e

abbrev pub decreases-readers : goal.decreases-readers
decreases-readers l = length l.rest
