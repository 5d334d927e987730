use Rattle.std.proofs.Common.{length}
use Rattle.query_core.proofs.Linking.{Linking}
use Rattle.query_core.proofs.readers.Readers.link.Given as goal

abbrev pub invariant-reads : goal.invariant-reads
invariant-reads l = Linking l.fn.self l.self l.reader l.rest l.reads

abbrev pub decreases-reads : goal.decreases-reads
decreases-reads l = length l.rest
