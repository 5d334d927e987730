-- What serving a client promises, by the status that it ends with.
use Rattle.std.specs.Prelude.{◌≡◌, ◌≤◌, ◌+◌, ◌^◌, ℕ, List, [], ◌∷◌, ◌++◌, take, drop, length, Some}
use Rattle.io_edges.specs.Store.{Entry, call_of}
use Rattle.io_edges.specs.declared.ends.Mark.{Mark}
use Rattle.lsp_framing.specs.Frames.{frames}
use Rattle.lsp_framing.specs.Standing.{IsEmptyOrOpen}
use Rattle.c11ls.specs.Calls.{Call}
use Rattle.c11ls.specs.Plain.{Stop, Exited, Lacks, Through, Plain, Done, Unclean, Faulty, Waiting, play, played, plain}
use Rattle.project_conf.specs.declared.options.Options.{Options}
use Rattle.c_session.specs.Asking.{Asking, after_all}
use Rattle.c_session.specs.React.{Outcome, asks}
use Rattle.c_session.specs.State.{State, fresh}
use Rattle.c11ls.specs.declared.status.Status.{Status}
use Rattle.c11ls.specs.declared.status.Status.TheVariants as status

-- these bytes begin the others
abbrev pub Begins : List ℕ → List ℕ → Type 0
Begins front bytes = (more : List ℕ) × (bytes ≡ front ++ more)

-- the whole replies to the first contents of an input, up to some content
abbrev pub AreReplies : Options → List ℕ → List Entry → List ℕ → Type 0
AreReplies options bytes answers out = (n : ℕ) × (out ≡ (play (take n (frames bytes).contents) (fresh options) answers).out)

-- What is left of the store's answers was given to the content in turn; where none is in turn, nothing is left.
abbrev pub WereGiven : State → List (List ℕ) → List Entry → Type 0
WereGiven s [] answers = ⊥
WereGiven s (content ∷ contents) answers = (next : Asking Outcome) × (after_all (asks s content) answers ≡ Some next)

abbrev pub AreLeft : State → List (List ℕ) → List Entry → Type 0
AreLeft s contents [] = Unit {0}
AreLeft s contents (entry ∷ left) = WereGiven s contents (entry ∷ left)

-- Handling was interrupted: the contents before the one in turn went through, with these bytes written, and used up the
-- front of the store's answers. Each answer behind was given to a call that the content in turn asked for.
pub record IsInterrupted (options : Options) (bytes : List ℕ) (answers : List Entry) (out : List ℕ) : Type 0 where
  pub handled : ℕ
  pub state : State
  pub used : ℕ
  pub through : play (take handled (frames bytes).contents) (fresh options) answers ≡ record { out = out; used = used; stop = Through state }
  pub within : used ≤ length answers
  pub left : AreLeft state (drop handled (frames bytes).contents) (drop used answers)

-- what a status reads of the input: all that the source had left, or what was taken where the call ended early
abbrev pub input_of : Status → Call → List ℕ
input_of status.Done call = call.left
input_of status.Unclean call = call.left
input_of (status.BadFrame place kind) call = call.left
input_of status.WriteFault call = call.left
input_of _ call = call.taken

-- the plain server on that input, with the store's answers of the call
abbrev pub plain_on : Options → Status → Call → Plain
plain_on options ended call = plain options (input_of ended call) call.answers

-- What the sink got: the bytes of the plain server; at a fault of the sink a front of them, and for want of memory the
-- whole replies up to some message.
abbrev pub HasWritten : Options → Status → Call → Type 0
HasWritten options status.StoreFault call = (call.out ≡ (plain_on options status.StoreFault call).out) × ((plain_on options status.StoreFault call).verdict ≡ Waiting)
HasWritten options status.WriteFault call = Begins call.out (plain_on options status.WriteFault call).out
HasWritten options status.NoMemory call = AreReplies options call.taken call.answers call.out
HasWritten options ended call = call.out ≡ (plain_on options ended call).out

-- All answers of the store were used; where the call ended early in a message, those before it used up the front of them,
-- and the others were given to that message.
abbrev pub HasUsed : Options → Status → Call → Type 0
HasUsed options status.StoreFault call = IsInterrupted options call.taken call.answers call.out
HasUsed options status.NoMemory call = IsInterrupted options call.taken call.answers call.out
HasUsed options ended call = (plain_on options ended call).used ≡ length call.answers

-- the play went through all contents: no `exit` was met, and no answer of the store was wanted
abbrev pub IsThrough : Stop → Type 0
IsThrough (Exited end) = ⊥
IsThrough (Lacks wanted) = ⊥
IsThrough (Through s) = Unit {0}

-- At a moment of a call, before a read that took bytes: what was written is what the plain server writes for what was
-- taken, no `exit` was met in it, and what stands isn't faulty.
pub record IsPrompt (options : Options) (taken out : List ℕ) (answers : List Entry) (moment : Mark) : Type 0 where
  pub within : moment.taken ≤ length taken
  pub wrote : moment.written ≤ length out
  pub output : (plain options (take moment.taken taken) answers).out ≡ take moment.written out
  pub through : IsThrough (played options (take moment.taken taken) answers).stop
  pub sound : IsEmptyOrOpen (frames (take moment.taken taken)).rest

-- No `exit` was met in what was taken, and what stands isn't faulty: the plain server would go on.
pub record WouldGoOn (options : Options) (taken : List ℕ) (answers : List Entry) : Type 0 where
  pub through : IsThrough (played options taken answers).stop
  pub sound : IsEmptyOrOpen (frames taken).rest

-- A call that ends for want of bytes, by a fault of the source or past 2^62 bytes, had come to no other end before.
abbrev pub HadNoEnd : Options → Status → Call → Type 0
HadNoEnd options status.ReadFault call = WouldGoOn options call.taken call.answers
HadNoEnd options status.LongInput call = WouldGoOn options call.taken call.answers
HadNoEnd options _ call = Unit {0}

abbrev pub EachPrompt : Options → List ℕ → List ℕ → List Entry → List Mark → Type 0
EachPrompt options taken out answers [] = Unit {0}
EachPrompt options taken out answers (moment ∷ moments) = IsPrompt options taken out answers moment × EachPrompt options taken out answers moments

abbrev pub ArePrompt : Options → Call → Type 0
ArePrompt options call = EachPrompt options call.taken call.out call.answers call.moments

-- the most bytes that a read takes
abbrev pub most_read : ℕ
most_read = 65536

-- No read took more than that: from each moment to the next one, and from the last one to the end. The first argument is
-- what may have been taken by then.
abbrev pub ArePortions : ℕ → List Mark → ℕ → Type 0
ArePortions most [] total = total ≤ most
ArePortions most (moment ∷ moments) total = (moment.taken ≤ most) × ArePortions (moment.taken + most_read) moments total

abbrev pub HasReadPortions : Call → Type 0
HasReadPortions call = ArePortions 0 call.moments (length call.taken)

-- Each answer of the store was wanted: the plain server, with the answers before it, lacks just that call's.
abbrev pub EachWanted : Options → List ℕ → List Entry → Type 0
EachWanted options taken answers = (before : List Entry) (entry : Entry) (behind : List Entry) →
    answers ≡ before ++ entry ∷ behind → (played options taken before).stop ≡ Lacks (call_of entry)

abbrev pub AreWanted : Options → Call → Type 0
AreWanted options call = EachWanted options call.taken call.answers

-- The verdict of the plain server that a status tells; a long input is one of which 2^62 bytes were taken.
abbrev pub HasVerdict : Options → Status → Call → Type 0
HasVerdict options status.Done call = (plain_on options status.Done call).verdict ≡ Done
HasVerdict options status.Unclean call = (plain_on options status.Unclean call).verdict ≡ Unclean
HasVerdict options (status.BadFrame place kind) call = (plain_on options (status.BadFrame place kind) call).verdict ≡ Faulty place kind
HasVerdict options status.LongInput call = 2 ^ 62 ≤ length call.taken
HasVerdict options _ call = Unit {0}
