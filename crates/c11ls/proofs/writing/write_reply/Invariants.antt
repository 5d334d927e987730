use Rattle.std.proofs.Common.{◌≡◌, length}
use Rattle.c11ls.specs.Ties.Turn.{Sent}
use Rattle.c11ls.proofs.writing.write_reply.Given as goal

abbrev pub invariant-pieces : goal.invariant-pieces
invariant-pieces g l =
    let wire = g.W.Wire in
    record {
      sent : Sent (wire.told l.fn.wire) (wire.told l.wire) l.fn.bytes l.rest;
      write_faults : wire.write_faults l.wire ≡ wire.write_faults l.fn.wire;
      read_faults : wire.read_faults l.wire ≡ wire.read_faults l.fn.wire;
    }

abbrev pub decreases-pieces : goal.decreases-pieces
decreases-pieces g l = length l.rest
