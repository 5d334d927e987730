use Rattle.std.proofs.Common.{refl, option_map}
use Rattle.serde_json.specs.View.{view}
use Rattle.c_session.specs.Ties.Sessions.{current_state}
use Rattle.c_session.proofs.Asking.{gave_up, stays}
use Rattle.c_session.specs.Handled.{running_work}
use Rattle.c_session.specs.declared.phase.Phase.TheVariants.{Running, Down}
use Rattle.c_session.proofs.Keeping.{fresh_works, no_work, running_works, works_alone, works_in}
use Rattle.c_session.proofs.current.Current.on_request.Goals as goal

pub returns-in-Err-clause-refused : goal.returns-in-Err-clause-refused
returns-in-Err-clause-refused g c = (refl, gave_up (stays _ _))

pub returns-in-Err-error-clause-refused : goal.returns-in-Err-error-clause-refused
returns-in-Err-error-clause-refused g c = (refl, gave_up (stays _ _))

pub returns-in-Ok-clause-steps : goal.returns-in-Ok-clause-steps
returns-in-Ok-clause-steps g c = works_in c.args.self.now.phase Running (current_state c.args.self.now) (current_state c.on_running_request.new.self) c.args.method.now (option_map (λ v. view v.now) c.args.params) _ _ c.in-Running.is
    (running_works (current_state c.args.self.now) (current_state c.on_running_request.new.self) c.args.id.now c.args.method.now (option_map (λ v. view v.now) c.args.params) c.in-Ok.bytes.items
    (running_work Running (current_state c.args.self.now) c.args.method.now (option_map (λ v. view v.now) c.args.params)) _ _ c.in-Ok.ensures.told c.in-Ok.ensures.steps)

pub returns-in-Ok-error-clause-steps : goal.returns-in-Ok-error-clause-steps
returns-in-Ok-error-clause-steps g c = works_in c.args.self.now.phase Down (current_state c.args.self.now) (current_state c.args.self.now) c.args.method.now (option_map (λ v. view v.now) c.args.params) _ _ c.in-Down.is
    (works_alone (current_state c.args.self.now) (current_state c.args.self.now) _ _ (no_work (current_state c.args.self.now) _))

pub returns-in-Fresh-clause-steps : goal.returns-in-Fresh-clause-steps
returns-in-Fresh-clause-steps g c = fresh_works c.on_fresh_request.result c.args.self.now.phase (current_state c.args.self.now) (current_state c.on_fresh_request.new.self) c.args.method.now (option_map (λ v. view v.now) c.args.params) c.args.steps.now c.on_fresh_request.new.steps
    c.in-Fresh.is c.on_fresh_request.ensures.steps
