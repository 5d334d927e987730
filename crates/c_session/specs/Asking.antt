-- What depends on the store's answers: what asks (see `asking`), with the calls of a store as its questions, each asked by
-- itself.
use Rattle.std.specs.Prelude.{ℕ, Bool, false, List, Option, Some, None, if◌then◌else◌}
use Rattle.std.specs.Str.{bytes_eq}
use Rattle.asking.specs.Asking as trees
pub use Rattle.asking.specs.Asking.{Gives, and_then}
pub use Rattle.asking.specs.InTurn.{after_all, next_question as next_call}
use Rattle.io_edges.specs.Store.{Call, ListCall, ReadCall, Entry, Lists, Reads}
use Rattle.io_edges.specs.declared.ends.Listed.{Listed}
use Rattle.io_edges.specs.declared.ends.Found.{Found}

-- what the store answers to a call
abbrev pub Answer : Call → Type 0
Answer (ListCall root) = List Listed
Answer (ReadCall path) = Found

-- the answer to this call that an entry is; none where it is one to another call or path
abbrev pub answer_in : (call : Call) → Entry → Option (Answer call)
answer_in (ListCall root) (Lists listed found) = if bytes_eq root listed then Some found else None
answer_in (ListCall root) (Reads read found) = None
answer_in (ReadCall path) (Lists listed found) = None
answer_in (ReadCall path) (Reads read found) = if bytes_eq path read then Some found else None

abbrev pub same_call : Call → Call → Bool
same_call (ListCall root) (ListCall listed) = bytes_eq root listed
same_call (ListCall root) (ReadCall read) = false
same_call (ReadCall path) (ListCall listed) = false
same_call (ReadCall path) (ReadCall read) = bytes_eq path read

-- the calls of a store, as a kind of questions
abbrev pub calls : trees.Kind
calls = record { Question = Call; Answer = Answer; Entry = Entry; reads = answer_in; same = same_call }

abbrev pub Asking : Type 0 → Type 0
Asking A = trees.Asking calls A

-- the store is asked for a list or a file
abbrev pub asks_list : {A : Type 0} → List ℕ → (List Listed → Asking A) → Asking A
asks_list root next = trees.asks_one {kind = calls} (ListCall root) next

abbrev pub asks_read : {A : Type 0} → List ℕ → (Found → Asking A) → Asking A
asks_read path next = trees.asks_one {kind = calls} (ReadCall path) next
