use Rattle.std.proofs.Common.{option_map}
use Rattle.serde_json.specs.View.{view}
use Rattle.c_session.specs.Questions.{about_in}
use Rattle.c_session.specs.Ties.Sessions.{current_state}
use Rattle.c_session.proofs.Answering.{question_told}
use Rattle.c_session.proofs.current.Current.on_question.Goals as goal

pub returns-in_ok-bytes-in-Ok : goal.returns-in_ok-bytes-in-Ok
returns-in_ok-bytes-in-Ok c = question_told (current_state c.args.self.now) c.args.id.now (about_in c.args.kind (option_map (λ v. view v.now) c.args.params)) c.in-Ok.about _ c.in_ok-text-in-Ok.text
    c.in_ok-bytes-in-Ok.bytes.items c.in-Ok.ensures c.requires.0.units c.in_ok-text-in-Ok.ensures c.in_ok-bytes-in-Ok.ensures
