use Rattle.std.proofs.Common.{◌≡◌, ◌<◌, ◌+◌, ◌-◌, ◌^◌, vec_len}
use Rattle.c11ls.specs.Ties.Going.{Going, IsInStep}
use Rattle.c_session.specs.Ties.Sessions.{state_of, handled_by}
use Rattle.c11ls.specs.Ties.Turn.{Stands}
use Rattle.c11ls.proofs.run.reads.Given as goal

abbrev pub invariant-reads : goal.invariant-reads
invariant-reads g l =
    let wire = g.W.Wire in
    let store = g.D.Store in
    record {
      going : Going l.fn.options (wire.told l.fn.wire) (wire.told l.wire) (store.answers l.fn.store) (store.answers l.store) (state_of l.session) l.frames l.taken;
      stands : Stands (wire.read_faults l.fn.wire) (wire.read_faults l.wire) (wire.write_faults l.fn.wire) (wire.write_faults l.wire)
          (store.faults l.fn.store) (store.faults l.store);
      room : vec_len l.buffer ≡ 65536;
      short : l.taken < 2 ^ 62 + 65536;
      step : IsInStep l.frames (handled_by l.session);
    }

abbrev pub decreases-reads : goal.decreases-reads
decreases-reads g l = 2 ^ 62 + 65536 - l.taken
