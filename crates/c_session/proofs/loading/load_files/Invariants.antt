use Rattle.std.proofs.Common.{◌≡◌, length}
use Rattle.c_session.specs.Handled.{Reached}
use Rattle.c_session.specs.Loading.{loads}
use Rattle.c_session.specs.Ties.Sessions.{loading}
use Rattle.c_session.proofs.loading.load_files.Given as goal

abbrev pub invariant-files : goal.invariant-files
invariant-files g l = record {
  reached : Reached (loads (loading l.fn.docs l.fn.logs.items) l.fn.paths) (loads (loading l.docs l.logs.items) l.rest) (g.D.Store.answers l.fn.store) (g.D.Store.answers l.store);
  counted : g.D.Store.faults l.store ≡ g.D.Store.faults l.fn.store;
}

abbrev pub decreases-files : goal.decreases-files
decreases-files g l = length l.rest
