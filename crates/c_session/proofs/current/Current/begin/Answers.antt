use Rattle.serde_json.specs.View.{view}
use Rattle.plain_mean.specs.Lists.{shown_in}
use Rattle.c_session.specs.Shown.{conf_in}
use Rattle.c_session.specs.Ties.Sessions.{current_state}
use Rattle.c_session.proofs.Telling.{begins_tells, begun}
use Rattle.c_session.proofs.Keeping.{works_as}
use Rattle.c_session.proofs.current.Current.begin.Goals as goal

pub returns-in-Ok-clause-told : goal.returns-in-Ok-clause-told
returns-in-Ok-clause-told g c = begins_tells (current_state c.args.self.now) (current_state c.finish.new.self) c.args.id.now c.args.encoding c.args.prepare c.args.loaded.docs c.args.loaded.logs.items c.as_slice.result.now c.in_ok-bytes.bytes.items
    c.in-Ok.bytes.items (shown_in c.args.self.now.kept.shown) (shown_in c.finish.new.self.kept.shown) c.in_ok-prior.prior (view c.in_ok-answer.answer) c.in-Ok.ensures.same c.in_ok-prior.ensures c.requires.kept.0.shown.right c.in-Ok.ensures.kept.0.shown.right c.in_ok-answer.ensures c.in_ok-bytes.ensures c.as_slice.ensures.value c.in-Ok.ensures.wrote

pub returns-in-Ok-clause-steps : goal.returns-in-Ok-clause-steps
returns-in-Ok-clause-steps g c = works_as (current_state c.args.self.now) (begun (current_state c.args.self.now) c.args.loaded.docs c.args.encoding) (current_state c.finish.new.self) _ _ c.in-Ok.ensures.same
    (c.in-Ok.ensures.steps c.args.self.now.docs (conf_in (current_state c.args.self.now)) c.in_ok-prior.ensures c.requires.kept.0)

pub finish-requires : goal.finish-requires
finish-requires g c = record {
  kept = record {
    before = c.args.self.now.docs;
    read = conf_in (current_state c.args.self.now);
    since = c.in_ok-prior.ensures;
    were = c.requires.kept.0;
  };
  read = tt;
}
