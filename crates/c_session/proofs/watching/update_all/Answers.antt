use Rattle.std.proofs.Common.{◌∙◌}
use Rattle.c_session.specs.Ties.SeenParams.{seen_file_change}
use Rattle.c_session.proofs.Loads.{changes_turn, changes_stop}
use Rattle.c_session.proofs.Priors.{keeps_then}
use Rattle.c_session.proofs.watching.update_all.Goals as goal

pub returns-in-Err-clause-refused : goal.returns-in-Err-clause-refused
returns-in-Err-clause-refused g c = changes_stop seen_file_change _ _ c.args.changes.now c.changes.change-index _ _ _ _ _ _ _ c.in-Err.error c.changes-test.true
    c.changes.invariant.reached c.changes.invariant.counted c.in-Err.ensures.refused

pub changes-preserved : goal.changes-preserved
changes-preserved g c = record {
  reached = changes_turn seen_file_change _ _ _ c.args.changes.now c.changes.change-index _ _ _ _ c.changes-test.true c.changes.invariant.reached c.in-Ok.ensures.updated;
  counted = c.in-Ok.ensures.counted ∙ c.changes.invariant.counted;
  prior = keeps_then _ _ _ _ _ _ c.changes.invariant.prior c.in-Ok.ensures.prior;
}
