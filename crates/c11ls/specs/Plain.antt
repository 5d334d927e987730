-- The plain server: it keeps the state alone, and reacts to one content after the other.
use Rattle.std.specs.Prelude.{ℕ, ◌+◌, List, [], ◌∷◌, ◌++◌, drop, length, Some, None, if◌then◌else◌, ◌==◌}
use Rattle.io_edges.specs.Store.{Call, Entry}
use Rattle.c_session.specs.React.{Reaction, Replies, Wants, react}
use Rattle.project_conf.specs.declared.options.Options.{Options}
use Rattle.c_session.specs.State.{State, fresh}
use Rattle.lsp_framing.specs.Frames.{frames, Rest, Empty, Open, Bad}
use Rattle.lsp_framing.specs.declared.FrameKind.{FrameKind}
use Rattle.lsp_framing.specs.declared.FrameKind.TheVariants.{Cut}

-- Where a play of contents stops.
pub data Stop : Type 0 where
  -- an `exit` was met, with this status
  Exited : ℕ → Stop
  -- the answers of the store were used up, at this call
  Lacks : Call → Stop
  -- each content was handled, which left this state
  Through : State → Stop

-- A play of contents: the replies joined, how many answers of the store were used, and where it stops.
pub record Played : Type 0 where
  pub out : List ℕ
  pub used : ℕ
  pub stop : Stop

-- a play that goes on behind a reply, which used answers too
abbrev pub behind : List ℕ → ℕ → Played → Played
behind bytes used p = record { out = bytes ++ p.out; used = used + p.used; stop = p.stop }

-- the play behind a reaction, `rest` being the play of the contents that follow
abbrev pub go_on : Reaction → List Entry → (State → List Entry → Played) → Played
go_on (Wants call) answers rest = record { out = []; used = 0; stop = Lacks call }
go_on (Replies s bytes (Some status) used) answers rest = record { out = bytes; used = used; stop = Exited status }
go_on (Replies s bytes None used) answers rest = behind bytes used (rest s (drop used answers))

-- the play of contents from a state, with the store's answers
abbrev pub play : List (List ℕ) → State → List Entry → Played
play [] s answers = record { out = []; used = 0; stop = Through s }
play (content ∷ contents) s answers = go_on (react s content answers) answers (play contents)

-- How the plain server ends.
pub data Verdict : Type 0 where
  -- `exit` after a `shutdown` that was answered
  Done : Verdict
  -- `exit` without it, or the end of the input between frames
  Unclean : Verdict
  -- the input is faulty at this place, or ends inside a frame
  Faulty : ℕ → FrameKind → Verdict
  -- an answer of the store is wanted that isn't there
  Waiting : Verdict

abbrev pub end_verdict : Rest → ℕ → Verdict
end_verdict Empty size = Unclean
end_verdict Open size = Faulty size Cut
end_verdict (Bad place kind) size = Faulty place kind

-- the verdict of a play of all whole frames of an input of `size` bytes, behind which `rest` stands
abbrev pub verdict_of : Stop → Rest → ℕ → Verdict
verdict_of (Exited status) rest size = if status == 0 then Done else Unclean
verdict_of (Lacks call) rest size = Waiting
verdict_of (Through s) rest size = end_verdict rest size

-- the contents of the whole frames of an input, played from the state without texts
unfoldable pub played : Options → List ℕ → List Entry → Played
played options bytes answers = play (frames bytes).contents (fresh options) answers

-- What the plain server writes for an input, how many answers of the store it uses, and how it ends.
pub record Plain : Type 0 where
  pub out : List ℕ
  pub used : ℕ
  pub verdict : Verdict

abbrev pub plain_of : Played → Rest → ℕ → Plain
plain_of p rest size = record { out = p.out; used = p.used; verdict = verdict_of p.stop rest size }

abbrev pub plain : Options → List ℕ → List Entry → Plain
plain options bytes answers = plain_of (played options bytes answers) (frames bytes).rest (length bytes)
