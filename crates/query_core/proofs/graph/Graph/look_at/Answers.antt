use Rattle.query_core.specs.Stored.{seen}
use Rattle.std.proofs.Common.{sym}
use Rattle.query_core.proofs.graph.Graph.look_at.Goals as goal

pub returns-then-not-is_current : goal.returns-then-not-is_current
returns-then-not-is_current g c = ((seen c.in-Some.read), (sym c.in-Some.ensures.value, sym c.if-not-is_current.ensures))

pub returns-then-read-since : goal.returns-then-read-since
returns-then-read-since g c = ((seen c.in-Some.read), (sym c.in-Some.ensures.value, sym c.if-not-is_current.ensures, c.if-read-since.true))

pub returns-else-read-since : goal.returns-else-read-since
returns-else-read-since g c = ((seen c.in-Some.read), (sym c.in-Some.ensures.value, sym c.if-not-is_current.ensures, c.if-read-since.false))
