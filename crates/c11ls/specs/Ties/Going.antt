-- What a call of the server has done so far, and what it has done at its end. These are what its loops keep.
use Rattle.std.specs.Prelude.{◌≡◌, ◌+◌, ◌≤◌, ◌<◌, ◌^◌, ℕ, List, ◌++◌, take, drop, length, map, Option, Some, None, option_map, IfSome}
use Rattle.io_edges.specs.Store.{Entry}
use Rattle.io_edges.specs.Wire.{Traffic}
use Rattle.io_edges.specs.declared.ends.Mark.{Mark}
use Rattle.lsp_framing.specs.Frames.{frames, Empty}
use Rattle.lsp_framing.specs.declared.FrameKind.TheVariants.{Cut}
use Rattle.lsp_framing.specs.Standing.{Standing, Follows, IsEmptyOrOpen}
use Rattle.c_session.specs.Handled.{Answered}
use Rattle.c11ls.specs.Plain.{Played, Through, Verdict, Done, Unclean, Faulty, Waiting, play, plain}
use Rattle.c11ls.specs.Serve.{WouldGoOn, Begins, IsInterrupted, ArePortions, EachPrompt, EachWanted}
use Rattle.project_conf.specs.declared.options.Options.{Options}
use Rattle.c_session.specs.State.{State, fresh}
use Rattle.c11ls.specs.declared.status.Status.{Status}
use Rattle.c11ls.specs.declared.status.Status.TheVariants as status

-- a moment of the call as a mark of the wire
abbrev pub mark_at : Traffic → Mark → Mark
mark_at old moment = record { taken = old.taken + moment.taken; written = length old.written + moment.written }

-- the wire behind what the call took and wrote
abbrev pub moved : List ℕ → List ℕ → List Mark → Traffic → Traffic
moved taken out moments t = record {
  left = drop (length taken) t.left;
  taken = t.taken + length taken;
  written = t.written ++ out;
  marks = t.marks ++ map (mark_at t) moments;
}

-- What a call did to its ends, from their state at its entry: it took these bytes from the front of what was left, and
-- wrote those, with the store's answers, each of which was wanted, and at each moment what was written was prompt.
pub record Moves (options : Options) (taken out : List ℕ) (moments : List Mark) (answers : List Entry)
    (w0 w : Option Traffic) (a0 a : Option (List Entry)) : Type 0 where
  pub moves : w ≡ option_map (moved taken out moments) w0
  pub front : IfSome w0 (λ t. take (length taken) t.left ≡ taken)
  pub answered : Answered answers a0 a
  pub prompt : EachPrompt options taken out answers moments
  pub wanted : EachWanted options taken answers
  pub portions : ArePortions 0 moments (length taken)

-- the play of the first contents went through, and used all answers
abbrev pub through : List ℕ → List Entry → State → Played
through out answers s = record { out = out; used = length answers; stop = Through s }

-- A call that goes on: it handled the first contents of what it took, which left the session in a state and wrote what
-- was written.
pub record Going (options : Options) (w0 w : Option Traffic) (a0 a : Option (List Entry)) (s : State) (standing : Standing) (size : ℕ) : Type 0 where
  pub taken : List ℕ
  pub handled : List (List ℕ)
  pub out : List ℕ
  pub moments : List Mark
  pub answers : List Entry
  pub did : Moves options taken out moments answers w0 w a0 a
  pub follows : Follows taken (length handled) standing
  pub first : take (length handled) (frames taken).contents ≡ handled
  pub played : play handled (fresh options) answers ≡ through out answers s
  pub sized : length taken ≡ size

-- The same where each whole frame was handled, and what stands isn't faulty.
pub record Settled (options : Options) (w0 w : Option Traffic) (a0 a : Option (List Entry)) (s : State) (standing : Standing) (size : ℕ) : Type 0 where
  pub going : Going options w0 w a0 a s standing size
  pub all : length (frames going.taken).contents ≡ length going.handled
  pub sound : IsEmptyOrOpen (frames going.taken).rest

-- the plain server on bytes
abbrev pub Plays : Options → List ℕ → List Entry → List ℕ → Verdict → Type 0
Plays options bytes answers out verdict = plain options bytes answers ≡ (record { out = out; used = length answers; verdict = verdict })

-- What ended the call with a status; `left` is what the source has left then.
abbrev pub Outcome : Options → Status → List ℕ → List ℕ → List Entry → List ℕ → Type 0
Outcome options status.Done taken out answers left = Plays options (taken ++ left) answers out Done
Outcome options status.Unclean taken out answers left = Plays options (taken ++ left) answers out Unclean
Outcome options (status.BadFrame place kind) taken out answers left = Plays options (taken ++ left) answers out (Faulty place kind)
Outcome options status.Usage taken out answers left = ⊥
Outcome options status.ReadFault taken out answers left = WouldGoOn options taken answers × ((verdict : Verdict) × Plays options taken answers out verdict)
Outcome options status.LongInput taken out answers left = (2 ^ 62 ≤ length taken) × WouldGoOn options taken answers × ((verdict : Verdict) × Plays options taken answers out verdict)
Outcome options status.StoreFault taken out answers left =
    ((plain options taken answers).out ≡ out) × IsInterrupted options taken answers out × ((plain options taken answers).verdict ≡ Waiting)
Outcome options status.WriteFault taken out answers left =
    Begins out (plain options (taken ++ left) answers).out × ((plain options (taken ++ left) answers).used ≡ length answers)
Outcome options status.NoMemory taken out answers left = IsInterrupted options taken answers out

-- serving a client never ends with Usage
abbrev pub IsServing : Status → Type 0
IsServing status.Usage = ⊥
IsServing status.Done = Unit {0}
IsServing status.Unclean = Unit {0}
IsServing (status.BadFrame place kind) = Unit {0}
IsServing status.ReadFault = Unit {0}
IsServing status.WriteFault = Unit {0}
IsServing status.StoreFault = Unit {0}
IsServing status.NoMemory = Unit {0}
IsServing status.LongInput = Unit {0}

-- A call that ended.
pub record Ended (options : Options) (status : Status) (w0 w : Option Traffic) (a0 a : Option (List Entry)) : Type 0 where
  pub taken : List ℕ
  pub out : List ℕ
  pub moments : List Mark
  pub answers : List Entry
  pub did : Moves options taken out moments answers w0 w a0 a
  pub usual : IsServing status
  pub outcome : IfSome w0 (λ t. Outcome options status taken out answers (drop (length taken) t.left))

-- The session handled as many contents as the reader of frames gave, of fewer than 2^63 bytes.
pub record IsInStep (standing : Standing) (handled : ℕ) : Type 0 where
  pub fed : List ℕ
  pub follows : Follows fed handled standing
  pub short : length fed < 2 ^ 63

-- from a moment on the call goes on to another
abbrev pub GoesOn : Options → Option Traffic → Option Traffic → Option (List Entry) → Option (List Entry) → State → State → Standing → Standing → Type 0
GoesOn options w w' a a' s s' standing standing' =
    (w0 : Option Traffic) (a0 : Option (List Entry)) (size : ℕ) → Going options w0 w a0 a s standing size → Going options w0 w' a0 a' s' standing' size

abbrev pub Settles : Options → Option Traffic → Option Traffic → Option (List Entry) → Option (List Entry) → State → State → Standing → Standing → Type 0
Settles options w w' a a' s s' standing standing' =
    (w0 : Option Traffic) (a0 : Option (List Entry)) (size : ℕ) → Going options w0 w a0 a s standing size → Settled options w0 w' a0 a' s' standing' size

-- or it ends
abbrev pub Ends : Options → Status → Option Traffic → Option Traffic → Option (List Entry) → Option (List Entry) → State → Standing → Type 0
Ends options status w w' a a' s standing =
    (w0 : Option Traffic) (a0 : Option (List Entry)) (size : ℕ) → Going options w0 w a0 a s standing size → Ended options status w0 w' a0 a'

-- What handling all whole frames does: it settles the call, or ends it with a status.
abbrev pub Drained : Options → Option Status → Option Traffic → Option Traffic → Option (List Entry) → Option (List Entry) → State → State → Standing → Standing → Type 0
Drained options None w w' a a' s s' standing standing' = Settles options w w' a a' s s' standing standing'
Drained options (Some ended) w w' a a' s s' standing standing' = Ends options ended w w' a a' s standing

-- The end of the input: nothing stands, or a frame that isn't whole, at the number of bytes taken.
abbrev pub EndsInput : Status → Standing → ℕ → Type 0
EndsInput status.Unclean standing taken = (fed : List ℕ) (given : ℕ) → Follows fed given standing → (frames fed).rest ≡ Empty
EndsInput (status.BadFrame place kind) standing taken = (place ≡ taken) × (kind ≡ Cut)
    × ((fed : List ℕ) (given : ℕ) → Follows fed given standing → length (frames fed).contents ≡ given → (frames fed).rest ≡ Empty → ⊥)
EndsInput status.Done standing taken = ⊥
EndsInput status.Usage standing taken = ⊥
EndsInput status.ReadFault standing taken = ⊥
EndsInput status.WriteFault standing taken = ⊥
EndsInput status.StoreFault standing taken = ⊥
EndsInput status.NoMemory standing taken = ⊥
EndsInput status.LongInput standing taken = ⊥
