use Rattle.std.proofs.Common.{◌≤◌, length}
use Rattle.tree_data.specs.Stated.{stmt_of, leads_of}
use Rattle.stmt_parser.specs.Frames.{Awaited, led_back}
use Rattle.stmt_parser.proofs.frames.close.Given as goal

abbrev pub invariant-frames : goal.invariant-frames
invariant-frames l =
    record {
      awaited : Awaited l._scope l._at l.frames.items (led_back (leads_of l.behind.items) (stmt_of l.core)) l.end;
      forth : l.fn.end ≤ l.end;
    }

abbrev pub decreases-frames : goal.decreases-frames
decreases-frames l = length l.frames.items
