use Rattle.std.proofs.Common.{◌∙◌}
use Rattle.c11ls.proofs.Sending.{sending_turns, sending_stops}
use Rattle.c11ls.proofs.writing.write_reply.Goals as goal

pub pieces-preserved : goal.pieces-preserved
pieces-preserved g c = record {
  sent = rw c.split_at.ensures.back (sending_turns _ _ _ _ _ _ c.pieces.invariant.sent c.in-Ok.ensures.written);
  write_faults = c.in-Ok.ensures.counted ∙ c.pieces.invariant.write_faults;
  read_faults = c.in-Ok.ensures.other_side ∙ c.pieces.invariant.read_faults;
}

pub returns-in-Err-clause-front : goal.returns-in-Err-clause-front
returns-in-Err-clause-front g c = sending_stops _ _ _ _ _ c.pieces.invariant.sent c.in-Err.ensures.failed
