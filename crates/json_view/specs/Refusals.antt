-- Why a member of a JSON value isn't read: seen by the bytes of its key.
use Rattle.std.specs.Prelude.{ℕ, List, Result, Ok, Err}
use Rattle.std.specs.Result.{result_map_both}
use Rattle.json_view.specs.declared.error.ViewError.{ViewError}
use Rattle.json_view.specs.declared.error.ViewError.TheVariants as error

pub data Refusal : Type 0 where
  -- the value has no member of this name
  Missing : List ℕ → Refusal
  -- the member is no value of the kind that is asked for
  WrongKind : List ℕ → Refusal
  -- the member is a whole number outside the type that is asked for
  OutOfRange : List ℕ → Refusal
  NoMemory : Refusal

-- an error, with its key as a text
abbrev pub refusal : ViewError → Refusal
refusal (error.Missing key) = Missing key.now
refusal (error.WrongKind key) = WrongKind key.now
refusal (error.OutOfRange key) = OutOfRange key.now
refusal error.NoMemory = NoMemory

-- an answer, of which `view` says what contracts see
abbrev pub seen : {T U : Type 0} → (T → U) → Result T ViewError → Result U Refusal
seen view answer = result_map_both view refusal answer

-- the next step, unless this one was refused
abbrev pub and_then : {T U : Type 0} → Result T Refusal → (T → Result U Refusal) → Result U Refusal
and_then (Ok x) next = next x
and_then (Err e) next = Err e
