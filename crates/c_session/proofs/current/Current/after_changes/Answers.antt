use Rattle.std.proofs.Common.{map}
use Rattle.c_session.specs.Ties.SeenParams.{seen_file_change}
use Rattle.plain_mean.specs.Lists.{shown_in}
use Rattle.c_session.specs.Shown.{conf_in}
use Rattle.c_session.specs.Ties.Sessions.{current_state}
use Rattle.c_session.proofs.Telling.{watched_tells, watched_refused, watched_wants, with_docs}
use Rattle.c_session.proofs.Keeping.{first_kept, works_as}
use Rattle.c_session.proofs.Readings.{was_read}
use Rattle.c_session.proofs.current.Current.after_changes.Goals as goal

pub returns-in-Err-clause-refused : goal.returns-in-Err-clause-refused
returns-in-Err-clause-refused g c = watched_refused (current_state c.args.self.now) (map seen_file_change c.args.changes.now) c.new-logs.result.items _ _ _ _ c.in-Err.error
    c.in-Err.ensures.refused c.new-logs.ensures.items

pub returns-in-Ok-finish-clause-handled : goal.returns-in-Ok-finish-clause-handled
returns-in-Ok-finish-clause-handled g c = watched_tells (current_state c.args.self.now) (current_state c.finish.new.self) c.update_all.new.docs (map seen_file_change c.args.changes.now) c.new-logs.result.items
    c.update_all.new.logs.items c.as_slice.result.now c.new.result.items c.in-Ok-finish.bytes.items (shown_in c.args.self.now.kept.shown) (shown_in c.finish.new.self.kept.shown) c.new-prior.result c.update_all.new.prior _ _
    c.in-Ok-finish.ensures.same c.in-Ok.ensures.updated c.new-logs.ensures.items c.new-prior.ensures c.in-Ok.ensures.prior c.requires.kept.0.shown.right c.in-Ok-finish.ensures.kept.0.shown.right c.in-Ok-finish.ensures.wrote
    c.new.ensures.items c.as_slice.ensures.value

pub returns-clause-refused : goal.returns-clause-refused
returns-clause-refused g c = (
  c.in-Ok.ensures.counted,
  watched_wants (current_state c.args.self.now) (map seen_file_change c.args.changes.now) c.new-logs.result.items _ _ _
      c.in-Ok.ensures.updated c.new-logs.ensures.items,
)

pub returns-in-Ok-finish-clause-steps : goal.returns-in-Ok-finish-clause-steps
returns-in-Ok-finish-clause-steps g c = works_as (current_state c.args.self.now) (current_state (with_docs c.update_all.new.docs c.args.self.now)) (current_state c.finish.new.self) _ _ c.in-Ok-finish.ensures.same
    (c.in-Ok-finish.ensures.steps c.args.self.now.docs (conf_in (current_state c.args.self.now))
    (first_kept c.args.self.now.docs c.update_all.new.docs c.new-prior.result c.update_all.new.prior c.new-prior.ensures c.in-Ok.ensures.prior) c.requires.kept.0)

pub finish-requires : goal.finish-requires
finish-requires g c = record {
  kept = record {
    before = c.args.self.now.docs;
    read = conf_in (current_state c.args.self.now);
    since = first_kept c.args.self.now.docs c.update_all.new.docs c.new-prior.result c.update_all.new.prior c.new-prior.ensures c.in-Ok.ensures.prior;
    were = c.requires.kept.0;
  };
  read = was_read c.args.self.now.words c.args.self.now.docs c.update_all.new.docs c.update_all.new.prior c.args.self.now.read
      (first_kept c.args.self.now.docs c.update_all.new.docs c.new-prior.result c.update_all.new.prior c.new-prior.ensures c.in-Ok.ensures.prior) c.in-Ok.ensures.prior.root c.requires.kept.1;
}
