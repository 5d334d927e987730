use Rattle.std.proofs.Common.{◌≡◌, map, drop}
use Rattle.c_session.specs.Handled.{Reached}
use Rattle.c_session.specs.Loading.{updates_all}
use Rattle.c_session.specs.Ties.News.{KeepsPrior}
use Rattle.c_session.specs.Ties.SeenParams.{seen_file_change}
use Rattle.c_session.specs.Ties.Sessions.{loading}
use Rattle.c_session.proofs.watching.update_all.Given as goal

abbrev pub invariant-changes : goal.invariant-changes
invariant-changes g l = record {
  reached : Reached (updates_all (loading l.fn.docs l.fn.logs.items) (map seen_file_change l.fn.changes)) (updates_all (loading l.docs l.logs.items) (map seen_file_change (drop l.change-index l.fn.changes)))
      (g.D.Store.answers l.fn.store) (g.D.Store.answers l.store);
  counted : g.D.Store.faults l.store ≡ g.D.Store.faults l.fn.store;
  prior : KeepsPrior l.fn.prior l.fn.docs l.prior l.docs;
}
