use Rattle.std.proofs.Common.{refl}
use Rattle.c_session.specs.Ties.Sessions.{current_state, loading, seen_beginning}
use Rattle.c_session.proofs.Asking.{gave_up, stays}
use Rattle.c_session.proofs.Telling.{began_then, began_refused, began_wants}
use Rattle.c_session.proofs.Keeping.{no_work}
use Rattle.c_session.proofs.current.Current.on_initialize.Goals as goal

pub returns-in-Err-reject-clause-refused : goal.returns-in-Err-reject-clause-refused
returns-in-Err-reject-clause-refused g c = (refl, gave_up (stays _ _))

pub returns-in-Err-load_root-clause-refused : goal.returns-in-Err-load_root-clause-refused
returns-in-Err-load_root-clause-refused g c = began_refused (current_state c.args.self.now) c.args.id.now _ (seen_beginning c.in-Ok.beginning) _ _ _ _ c.in-Err-load_root.error
    c.in-Ok.ensures c.in-Err-load_root.ensures.refused

pub returns-in-Ok-begin-clause-handled : goal.returns-in-Ok-begin-clause-handled
returns-in-Ok-begin-clause-handled g c = began_then (current_state c.args.self.now) (current_state c.begin.new.self) c.args.id.now _ (seen_beginning c.in-Ok.beginning)
    (loading c.in-Ok-load_root.loaded.docs c.in-Ok-load_root.loaded.logs.items) c.in-Ok-begin.bytes.items _ _ c.in-Ok.ensures c.in-Ok-load_root.ensures.loaded c.in-Ok-begin.ensures.told

pub returns-in-Err-begin-clause-refused : goal.returns-in-Err-begin-clause-refused
returns-in-Err-begin-clause-refused g c = (
  c.in-Ok-load_root.ensures.counted,
  began_wants (current_state c.args.self.now) c.args.id.now _ (seen_beginning c.in-Ok.beginning) _ _ _
      c.in-Ok.ensures c.in-Ok-load_root.ensures.loaded,
)

pub returns-in-Ok-reject-clause-steps : goal.returns-in-Ok-reject-clause-steps
returns-in-Ok-reject-clause-steps g c = no_work (current_state c.args.self.now) _
