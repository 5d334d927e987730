use Rattle.std.proofs.Common.{◌≡◌, ◌+◌, sym, ap, ◌∙◌, arith}
use Rattle.c_session.specs.Handled.{wanted_work}
use Rattle.c_session.specs.React.{renames}
use Rattle.c_session.specs.Ties.Sessions.{current_state}
use Rattle.c_session.proofs.current.Current.on_rename.Goals as goal

pub returns-in_ok-bytes-in-Ok-clause-told : goal.returns-in_ok-bytes-in-Ok-clause-told
returns-in_ok-bytes-in-Ok-clause-told g c = ap (renames (current_state c.args.self.now) c.args.id.now) c.in-Ok.ensures ∙ c.in_ok-bytes-in-Ok.ensures.told

pub returns-in_ok-bytes-in-Ok-clause-steps : goal.returns-in_ok-bytes-in-Ok-clause-steps
returns-in_ok-bytes-in-Ok-clause-steps g c = c.in_ok-bytes-in-Ok.ensures.steps ∙ ap (λ r. c.args.steps.now + wanted_work (current_state c.args.self.now) r) (sym c.in-Ok.ensures)

pub returns-in_ok-bytes-in-Err-clause-steps : goal.returns-in_ok-bytes-in-Err-clause-steps
returns-in_ok-bytes-in-Err-clause-steps g c =
    (let none : c.args.steps.now ≡ c.args.steps.now + 0 = omega arith in none)
    ∙ ap (λ r. c.args.steps.now + wanted_work (current_state c.args.self.now) r) (sym (c.in-Err.ensures c.in_ok-bytes-in-Err.ensures.refused))
