use Rattle.std.proofs.Common.{length}
use Rattle.c11ls.specs.Ties.Going.{GoesOn, IsInStep}
use Rattle.c_session.specs.Ties.Sessions.{state_of, handled_by}
use Rattle.project_conf.specs.declared.options.Options.{Options}
use Rattle.c11ls.specs.Ties.Turn.{Stands}
use Rattle.c11ls.proofs.run.drain.Given as goal

abbrev pub invariant-frames : goal.invariant-frames
invariant-frames g l =
    let wire = g.W.Wire in
    let store = g.D.Store in
    record {
      goes : (options : Options) → GoesOn options (wire.told l.fn.wire) (wire.told l.wire) (store.answers l.fn.store) (store.answers l.store)
          (state_of l.fn.session) (state_of l.session) l.fn.frames l.frames;
      stands : Stands (wire.read_faults l.fn.wire) (wire.read_faults l.wire) (wire.write_faults l.fn.wire) (wire.write_faults l.wire)
          (store.faults l.fn.store) (store.faults l.store);
      step : IsInStep l.frames (handled_by l.session);
    }

abbrev pub decreases-frames : goal.decreases-frames
decreases-frames g l = length l.frames.bytes
