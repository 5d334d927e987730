-- A question is answered from what is kept.
use Rattle.std.proofs.Common.{◌≡◌, ℕ, List, Result, Ok, ap, sym, ◌∙◌}
use Rattle.serde_json.specs.Written.{compact_text}
use Rattle.json_view.specs.declared.id.Id.{Id}
use Rattle.lsp_answers.specs.Replies.{IsResponse}
use Rattle.c_session.specs.Answered.{answer}
use Rattle.unit_index.specs.Known.{Known}
use Rattle.c_session.specs.React.{known_in, answered, answers, tells}
use Rattle.c_session.specs.Reasons.{Reason}
use Rattle.c_session.specs.State.{State}
use Rattle.c_session.specs.declared.questions.About.{About}

pub question_told : (s : State) (id : Id) (meant : Result About Reason) (about : About) (units : List Known) (text bytes : List ℕ) → meant ≡ Ok about → units ≡ known_in s →
    text ≡ compact_text (answer units s.texts s.encoding about.path about.question) → IsResponse id text bytes → answers s id (answered s meant) ≡ tells s bytes
question_told s id meant about units text bytes is kept told response =
    ap (λ m. answers s id (answered s m)) is
    ∙ ap (tells s) (sym (response (answer (known_in s) s.texts s.encoding about.path about.question)
    (told ∙ ap (λ us. compact_text (answer us s.texts s.encoding about.path about.question)) kept)))
