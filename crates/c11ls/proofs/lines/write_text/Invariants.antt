use Rattle.std.proofs.Common.{◌≡◌, length}
use Rattle.c11ls.specs.Lines.{Adding}
use Rattle.c11ls.proofs.lines.write_text.Given as goal

abbrev pub invariant-pieces : goal.invariant-pieces
invariant-pieces g l =
    let sink = g.E.Sink in
    record {
      adding : Adding l.fn.text l.rest (sink.written l.fn.sink) (sink.written l.sink);
      faults : sink.faults l.sink ≡ sink.faults l.fn.sink;
    }

abbrev pub decreases-pieces : goal.decreases-pieces
decreases-pieces g l = length l.rest
