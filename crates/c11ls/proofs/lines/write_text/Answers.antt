use Rattle.std.proofs.Common.{◌∙◌}
use Rattle.c11ls.proofs.Adding.{adding_turns, adding_stops}
use Rattle.c11ls.proofs.lines.write_text.Goals as goal

pub pieces-preserved : goal.pieces-preserved
pieces-preserved g c = record {
  adding = rw c.split_at.ensures.back (adding_turns _ _ _ _ _ _ c.pieces.invariant.adding c.in-Ok.ensures.appended);
  faults = c.in-Ok.ensures.counted ∙ c.pieces.invariant.faults;
}

pub returns-in-Err : goal.returns-in-Err
returns-in-Err g c = adding_stops _ _ _ _ _ _ _ _ c.pieces.invariant.adding c.in-Err.ensures.failed c.pieces.invariant.faults c.in-Err.ensures.counted
