-- What the plain server writes is made of replies that answer their contents.
use Rattle.std.proofs.Common.{◌≡◌, ℕ, List, [], ◌∷◌, ◌++◌, drop, take, Option, None, Some, refl, sym, ap, ◌∙◌, append-nil}
use Rattle.std.proofs.lemmas.List.Elements.{All-nil, All-cons}
use Rattle.io_edges.specs.Store.{Entry}
use Rattle.lsp_framing.specs.Frames.{frames}
use Rattle.c_session.specs.React.{Reaction, Replies, Wants, react, exit_status}
use Rattle.c_session.specs.Message.{message}
use Rattle.c_session.specs.Responses.{IsAnswered, IsExit}
use Rattle.c_session.specs.State.{State, fresh}
use Rattle.project_conf.specs.declared.options.Options.{Options}
use Rattle.c11ls.specs.Calls.{Call}
use Rattle.c11ls.specs.Exchanges.{Exchange, ReplyAnswersContent, IsNoExit, EndAtExit, StopsAt, AreAnswered, HasAnswered}
use Rattle.c11ls.specs.Plain.{Stop, Exited, Lacks, Through, go_on, play, played, plain}
use Rattle.c11ls.specs.Serve.{HasWritten}
use Rattle.c11ls.specs.declared.status.Status.{Status}
use Rattle.c11ls.specs.declared.status.Status.TheVariants as status

-- what the session's laws say of each reaction
pub record AreLaws : Type 0 where
  pub answered : (s next : State) (content bytes : List ℕ) (end : Option ℕ) (used : ℕ) (answers : List Entry) →
      react s content answers ≡ Replies next bytes end used → IsAnswered (message content) bytes
  pub exits : (s next : State) (content bytes : List ℕ) (status used : ℕ) (answers : List Entry) →
      react s content answers ≡ Replies next bytes (Some status) used → IsExit (message content)
  pub ends : (s next : State) (content bytes : List ℕ) (end : Option ℕ) (used : ℕ) (answers : List Entry) →
      react s content answers ≡ Replies next bytes end used → IsExit (message content) → end ≡ Some (exit_status s.phase)

-- ---- contents

stops_behind : (stop : Stop) (first : Exchange) (exchanges : List Exchange) (rest : List (List ℕ)) → IsNoExit first →
    StopsAt stop exchanges rest → StopsAt stop (first ∷ exchanges) rest
stops_behind (Exited end) first exchanges rest other at = record {
  before = first ∷ at.before;
  last = at.last;
  ends = ap (λ (es : List Exchange). first ∷ es) at.ends;
  exits = at.exits;
  others = All-cons IsNoExit first at.before other at.others;
}
stops_behind (Lacks call) first exchanges rest other at = (at.0, All-cons IsNoExit first exchanges other at.1)
stops_behind (Through s) first exchanges rest other at = (at.0, All-cons IsNoExit first exchanges other at.1)

one_more : (first : Exchange) (contents : List (List ℕ)) (stop : Stop) (out : List ℕ) → ReplyAnswersContent first → IsNoExit first →
    AreAnswered contents stop out →
    AreAnswered (first.content ∷ contents) stop (first.reply ++ out)
one_more first contents stop out fits other others = record {
  exchanges = first ∷ others.exchanges;
  rest = others.rest;
  handled = ap (λ (cs : List (List ℕ)). first.content ∷ cs) others.handled;
  each = All-cons ReplyAnswersContent first others.exchanges fits others.each;
  written = ap (λ (bytes : List ℕ). first.reply ++ bytes) others.written;
  stopped = stops_behind stop first others.exchanges others.rest other others.stopped;
}

exited : (last : Exchange) (contents : List (List ℕ)) (end : ℕ) → ReplyAnswersContent last → EndAtExit (last ∷ []) →
    AreAnswered (last.content ∷ contents) (Exited end) last.reply
exited last contents end fits at = record {
  exchanges = last ∷ [];
  rest = contents;
  handled = refl;
  each = All-cons ReplyAnswersContent last [] fits (All-nil ReplyAnswersContent);
  written = sym (append-nil last.reply);
  stopped = at;
}

none_handled : (contents : List (List ℕ)) (stop : Stop) → StopsAt stop [] contents → AreAnswered contents stop []
none_handled contents stop at = record {
  exchanges = [];
  rest = contents;
  handled = refl;
  each = All-nil ReplyAnswersContent;
  written = refl;
  stopped = at;
}

none_is_no_some : {A : Type 0} (x : A) → None ≡ Some x → ⊥
none_is_no_some x same = cc

more_than_none : (c : List ℕ) (cs : List (List ℕ)) → c ∷ cs ≡ [] → ⊥
more_than_none c cs none = cc

reacts : AreLaws → (r : Reaction) (s : State) (c : List ℕ) (cs : List (List ℕ)) (answers : List Entry) → react s c answers ≡ r →
    ((next : State) (left : List Entry) → AreAnswered cs (play cs next left).stop (play cs next left).out) →
    AreAnswered (c ∷ cs) (go_on r answers (play cs)).stop (go_on r answers (play cs)).out
reacts laws (Wants call) s c cs answers is further = none_handled (c ∷ cs) (Lacks call) (more_than_none c cs, All-nil IsNoExit)
reacts laws (Replies next bytes (Some status) used) s c cs answers is further =
    let last : Exchange = record { content = c; reply = bytes } in
    exited last cs status (laws.answered s next c bytes (Some status) used answers is)
    (record { before = []; last = last; ends = refl; exits = laws.exits s next c bytes status used answers is; others = All-nil IsNoExit })
reacts laws (Replies next bytes None used) s c cs answers is further =
    one_more (record { content = c; reply = bytes }) cs (play cs next (drop used answers)).stop
    (play cs next (drop used answers)).out
    (laws.answered s next c bytes None used answers is) (λ exit. none_is_no_some (exit_status s.phase) (laws.ends s next c bytes None used answers is exit))
    (further next (drop used answers))

pub play_answered : AreLaws → (cs : List (List ℕ)) (s : State) (answers : List Entry) →
    AreAnswered cs (play cs s answers).stop (play cs s answers).out
play_answered laws [] s answers = none_handled [] (Through s) (refl, All-nil IsNoExit)
play_answered laws (c ∷ cs) s answers = reacts laws (react s c answers) s c cs answers refl (play_answered laws cs)

pub plain_answered : AreLaws → (options : Options) (bytes : List ℕ) (answers : List Entry) →
    AreAnswered (frames bytes).contents (played options bytes answers).stop (plain options bytes answers).out
unfolding played
plain_answered laws options bytes answers = play_answered laws (frames bytes).contents (fresh options) answers

-- ---- a call

wrote : {contents : List (List ℕ)} {stop : Stop} {out out' : List ℕ} → out ≡ out' → AreAnswered contents stop out' →
    AreAnswered contents stop out
wrote is a = record {
  exchanges = a.exchanges;
  rest = a.rest;
  handled = a.handled;
  each = a.each;
  written = is ∙ a.written;
  stopped = a.stopped;
}

pub written_answers : AreLaws → (options : Options) (ended : Status) (call : Call) → HasWritten options ended call →
    HasAnswered options ended call
written_answers laws options status.Done call is = wrote is (plain_answered laws options call.left call.answers)
written_answers laws options status.Unclean call is = wrote is (plain_answered laws options call.left call.answers)
written_answers laws options (status.BadFrame place kind) call is = wrote is (plain_answered laws options call.left call.answers)
written_answers laws options status.Usage call is = wrote is (plain_answered laws options call.taken call.answers)
written_answers laws options status.ReadFault call is = wrote is (plain_answered laws options call.taken call.answers)
written_answers laws options status.LongInput call is = wrote is (plain_answered laws options call.taken call.answers)
written_answers laws options status.StoreFault call is = wrote is.0 (plain_answered laws options call.taken call.answers)
written_answers laws options status.WriteFault call is =
    ((plain options call.left call.answers).out, plain_answered laws options call.left call.answers, is)
written_answers laws options status.NoMemory call is =
    (is.0, wrote is.1 (play_answered laws (take is.0 (frames call.taken).contents) (fresh options) call.answers))
