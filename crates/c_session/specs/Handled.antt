-- What the handling of one content does: what the plain server's reaction does, with the store's answers that it got.
use Rattle.std.specs.Prelude.{◌≡◌, ◌+◌, ℕ, List, ◌++◌, length, Option, Some, option_map, Result, Ok, Err, if◌then◌else◌}
use Rattle.std.specs.Str.{bytes_eq}
use Rattle.serde_json.specs.Data.{Data}
use Rattle.io_edges.specs.Store.{Entry}
use Rattle.plain_mean.specs.Renewed.{renewed}
use Rattle.c_session.specs.Asking.{Asking, Gives, after_all}
use Rattle.c_session.specs.Message.{Message, NotJson, Batch, NotObject, Ignored, BadId, BadMethod, Notification, Request}
use Rattle.c_session.specs.Positions.{token_at}
use Rattle.c_session.specs.React.{Outcome, asks}
use Rattle.c_session.specs.Reasons.{Reason}
use Rattle.c_session.specs.Renames.{Renaming, rename_method, renaming_in, work_at}
use Rattle.c_session.specs.Shown.{conf_in}
use Rattle.c_session.specs.State.{State}
use Rattle.c_session.specs.declared.phase.Phase.{Phase}
use Rattle.c_session.specs.declared.phase.Phase.TheVariants.{Fresh, Running, Down}

-- The store answered these entries between two moments; what it tells, it tells at both.
abbrev pub Answered : List Entry → Option (List Entry) → Option (List Entry) → Type 0
Answered added old new = new ≡ option_map (λ told. told ++ added) old

-- The store answered, between two moments, each call that is asked in turn, up to what is asked next.
pub record Reached {A : Type 0} (asking next : Asking A) (old new : Option (List Entry)) : Type 0 where
  pub added : List Entry
  pub answered : Answered added old new
  pub follows : after_all asking added ≡ Some next

abbrev pub outcome : State → List ℕ → Option ℕ → Outcome
outcome s bytes end = record { state = s; bytes = bytes; end = end }

-- The reply and the next state are the reaction to the content.
abbrev pub Handled : State → List ℕ → State → List ℕ → Option ℕ → Option (List Entry) → Option (List Entry) → Type 0
Handled s content s' bytes end old new = Reached (asks s content) (Gives (outcome s' bytes end)) old new

-- the units that a request has worked out beside: for a rename those that ask something of files that has another answer once the edits are made
abbrev pub wanted_work : State → Result Renaming Reason → ℕ
wanted_work s (Ok r) = work_at s.texts (conf_in s) (token_at s.texts s.encoding r.path r.pos) r.new_name
wanted_work s (Err r) = 0

abbrev pub running_work : Phase → State → List ℕ → Option Data → ℕ
running_work Fresh s method params = 0
running_work Running s method params = if bytes_eq method rename_method then wanted_work s (renaming_in params) else 0
running_work Down s method params = 0

abbrev pub rename_work : State → Message → ℕ
rename_work s (Request id method params) = running_work s.phase s method params
rename_work s (Notification method params) = 0
rename_work s NotJson = 0
rename_work s Batch = 0
rename_work s NotObject = 0
rename_work s Ignored = 0
rename_work s BadId = 0
rename_work s (BadMethod id) = 0

-- How the counter of steps stands behind a message: each unit of the texts that it left was worked out, once, that wasn't a unit before, has another
-- configuration, or asked something of files that has another answer, and for a rename each that would ask something that has another answer with its edits made, once;
-- and no other unit.
abbrev pub IsWork : Message → State → State → ℕ → ℕ → Type 0
IsWork m s s' old new = new ≡ old + (length (renewed s.texts (conf_in s) s'.texts (conf_in s')) + rename_work s m)
