use Rattle.plain_mean.specs.Lists.{shown_in}
use Rattle.c_session.specs.Ties.Sessions.{current_state}
use Rattle.c_session.proofs.Telling.{closed_tells, with_docs}
use Rattle.c_session.proofs.Keeping.{kept_further, renews_further}
use Rattle.c_session.proofs.Readings.{read_further}
use Rattle.c_session.proofs.current.Current.after_close.Goals as goal

pub returns-in-Ok-finish-clause-handled : goal.returns-in-Ok-finish-clause-handled
returns-in-Ok-finish-clause-handled g c = closed_tells (current_state c.args.self.now) (current_state c.finish.new.self) c.read_back.new.docs c.args.path.now c.new-logs.result.items c.read_back.new.logs.items
    c.as_slice.result.now c.new.result.items c.in-Ok-finish.bytes.items (shown_in c.args.self.now.kept.shown) (shown_in c.finish.new.self.kept.shown) c.args.prior.now c.read_back.new.prior _ _ c.in-Ok-finish.ensures.same
    c.in-Ok.ensures.read c.new-logs.ensures.items c.in-Ok.ensures.prior c.in-Ok-finish.ensures.wrote c.new.ensures.items c.as_slice.ensures.value

pub returns-in-Ok-finish-clause-steps : goal.returns-in-Ok-finish-clause-steps
returns-in-Ok-finish-clause-steps g c = renews_further c.args.prior.now c.read_back.new.prior c.args.self.now.docs c.read_back.new.docs c.args.self.now.kept
    (current_state (with_docs c.read_back.new.docs c.args.self.now)) (current_state c.finish.new.self) _ _ c.in-Ok-finish.ensures.same c.in-Ok.ensures.prior c.in-Ok-finish.ensures.steps

pub finish-requires : goal.finish-requires
finish-requires g c = record {
  kept = kept_further c.args.prior.now c.read_back.new.prior c.args.self.now.docs c.read_back.new.docs c.args.self.now.kept c.in-Ok.ensures.prior c.requires.kept;
  read = read_further c.args.self.now.words c.args.prior.now c.read_back.new.prior c.args.self.now.docs c.read_back.new.docs c.args.self.now.read c.in-Ok.ensures.prior c.requires.read;
}
