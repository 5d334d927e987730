-- How a content that gave no result was left: by a fault of the store, or for want of memory.
use Rattle.std.specs.Prelude.{◌≡◌, ◌<◌, ℕ, List, Option, Some}
use Rattle.io_edges.specs.Store.{Call, Entry}
use Rattle.io_edges.specs.declared.ends.StoreFail.{StoreFail}
use Rattle.io_edges.specs.declared.ends.StoreFail.TheVariants as fail
use Rattle.c_session.specs.Asking.{Asking, next_call}
use Rattle.c_session.specs.Handled.{Reached}
use Rattle.c_session.specs.declared.error.SessionError.{SessionError}
use Rattle.c_session.specs.declared.error.SessionError.TheVariants.{StoreFault, NoMemory}

-- The store failed at the call that is asked next.
pub record Failed {A : Type 0} (asking : Asking A) (old new : Option (List Entry)) : Type 0 where
  pub next : Asking A
  pub reached : Reached asking next old new
  pub call : Call
  pub asked : next_call next ≡ Some call

-- Memory was wanted on the way.
pub record GaveUp {A : Type 0} (asking : Asking A) (old new : Option (List Entry)) : Type 0 where
  pub next : Asking A
  pub reached : Reached asking next old new

-- what a refusal of the store is to the session
abbrev pub session_error : StoreFail → SessionError
session_error fail.Failed = StoreFault
session_error fail.NoMemory = NoMemory

-- how a refused call of the store leaves its count of faults
abbrev pub IsFault : SessionError → ℕ → ℕ → Type 0
IsFault StoreFault faults faults' = faults < faults'
IsFault NoMemory faults faults' = faults' ≡ faults

-- Why something that asks the store gave no result: the store's count of faults rose, or memory was wanted. Each answer
-- that the store gave was to the call that was asked.
abbrev pub Refused : {A : Type 0} → SessionError → Asking A → Option (List Entry) → Option (List Entry) → ℕ → ℕ → Type 0
Refused StoreFault asking old new faults faults' = (faults < faults') × Failed asking old new
Refused NoMemory asking old new faults faults' = (faults' ≡ faults) × GaveUp asking old new
