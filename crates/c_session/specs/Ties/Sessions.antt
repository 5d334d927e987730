-- The state that a session keeps.
use Rattle.std.specs.Prelude.{◌≡◌, ◌+◌, ℕ, Bool, List, length, Option, None, Some}
use Rattle.doc_texts.specs.Texts.{Texts}
use Rattle.doc_texts.specs.Prior.{Prior}
use Rattle.plain_mean.specs.Renewed.{renewed}
use Rattle.project_conf.specs.declared.conf.Conf.{Conf}
use Rattle.project_conf.specs.declared.options.Options.{Options}
use Rattle.plain_mean.specs.Confs.{conf_of, IsUsable}
use Rattle.c_session.specs.Handled.{outcome}
use Rattle.c_session.specs.Loading.{Loading}
use Rattle.c_session.specs.React.{Outcome, Beginning}
use Rattle.c_session.specs.State.{State}
use Rattle.c_session.specs.Ties.News.{IsPrior}
use Rattle.c_session.specs.declared.starting.Beginning as code
use Rattle.c_session.specs.declared.current.Current.{Current}
use Rattle.c_session.specs.declared.current.Reply.{Reply}
use Rattle.c_session.specs.Shown.{conf_in}
use Rattle.c_session.specs.Kept.{IsAnalysis}
use Rattle.c_session.specs.declared.analysis.Analysis.{Analysis}

-- what contracts see of a session
pub record SessionView : Type 0 where
  pub state : State
  pub handled : ℕ
  -- what is kept is what the texts come to, as it is behind each call that gave a reply
  pub whole : Bool

abbrev pub current_state : Current → State
current_state c = record { options = c.words; texts = c.docs; encoding = c.encoding; phase = c.phase }

-- what is kept of how units are read is that
abbrev pub IsRead : Conf → Option Conf → Type 0
IsRead conf None = Unit {0}
IsRead conf (Some kept) = (kept ≡ conf) × IsUsable kept

-- what is kept is what the texts come to
abbrev pub IsKept : Current → Type 0
IsKept c = IsAnalysis c.docs (conf_in (current_state c)) c.kept × IsRead (conf_in (current_state c)) c.read

-- What is kept is what some texts came to, of which these are the prior texts.
pub record WereKept (prior : Prior) (now : Texts) (kept : Analysis) : Type 0 where
  pub before : Texts
  pub read : Conf
  pub since : IsPrior before prior now
  pub were : IsAnalysis before read kept

-- The units of some texts under the same root were read so, of which these are the prior texts.
pub record ReadBefore (options : Options) (prior : Prior) (now : Texts) (conf : Conf) : Type 0 where
  pub before : Texts
  pub since : IsPrior before prior now
  pub root : now.root ≡ before.root
  pub was : conf ≡ conf_of options before
  pub usable : IsUsable conf

abbrev pub WasRead : Options → Prior → Texts → Option Conf → Type 0
WasRead options prior now None = Unit {0}
WasRead options prior now (Some conf) = ReadBefore options prior now conf

-- ---- the counter of steps

-- The units of a state's texts were worked out that had to be, by what was kept of the texts before, whichever these were.
abbrev pub Renews : Prior → Texts → Analysis → State → ℕ → ℕ → Type 0
Renews prior now kept s old new =
    (t : Texts) (conf : Conf) → IsPrior t prior now → IsAnalysis t conf kept → new ≡ old + length (renewed t conf s.texts (conf_in s))

-- The units of the texts that a message left were worked out that had to be.
abbrev pub IsRenewal : State → State → ℕ → ℕ → Type 0
IsRenewal s s' old new = new ≡ old + length (renewed s.texts (conf_in s) s'.texts (conf_in s'))

-- A message left texts and options, and no unit was worked out, or those were that had to be.
pub data Works (s s' : State) (old new : ℕ) : Type 0 where
  Stood : s'.texts ≡ s.texts → s'.options ≡ s.options → new ≡ old → Works s s' old new
  Worked : IsRenewal s s' old new → Works s s' old new

-- So many more were worked out beside.
abbrev pub WorksBeside : ℕ → State → State → ℕ → ℕ → Type 0
WorksBeside more s s' old new = (between : ℕ) × (Works s s' old between) × (new ≡ between + more)

-- ---- a session

-- the session's state, and how many contents it has handled
abbrev pub state_of : SessionView → State
state_of session = session.state

abbrev pub handled_by : SessionView → ℕ
handled_by session = session.handled

abbrev pub is_whole : SessionView → Bool
is_whole session = session.whole

-- texts and logs so far
abbrev pub loading : Texts → List ℕ → Loading
loading texts logs = record { texts = texts; logs = logs }

-- the state behind a reply, and the reply
abbrev pub outcome_of : Current → Reply → Outcome
outcome_of current reply = outcome (current_state current) reply.bytes reply.end

-- what `initialize` states
abbrev pub seen_beginning : code.Beginning → Beginning
seen_beginning b = record { root = b.root; encoding = b.encoding; prepare = b.prepare }
