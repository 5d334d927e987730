-- What a store tells: the list of its answers so far, each with its call and the argument of the call.
use Rattle.std.specs.Prelude.{◌≡◌, ◌<◌, ℕ, List, [], ◌∷◌, ◌++◌}
use Rattle.io_edges.specs.declared.ends.Listed.{Listed}
use Rattle.io_edges.specs.declared.ends.Found.{Found}
use Rattle.io_edges.specs.declared.ends.StoreFail.{StoreFail}
use Rattle.io_edges.specs.declared.ends.StoreFail.TheVariants.{Failed, NoMemory}

-- A call of a store: `list` of a root, or `read` of a path.
pub data Call : Type 0 where
  ListCall : List ℕ → Call
  ReadCall : List ℕ → Call

-- An answer of a store, with its call's argument.
pub data Entry : Type 0 where
  Lists : List ℕ → List Listed → Entry
  Reads : List ℕ → Found → Entry

-- the call that an entry answers
abbrev pub call_of : Entry → Call
call_of (Lists root found) = ListCall root
call_of (Reads path found) = ReadCall path

-- the list of answers after one more
abbrev pub after_answer : Entry → List Entry → List Entry
after_answer entry answers = answers ++ entry ∷ []

-- how a refused call leaves the count of faults: it rose at a fault, and stands for want of memory
abbrev pub IsCounted : StoreFail → ℕ → ℕ → Type 0
IsCounted Failed old new = old < new
IsCounted NoMemory old new = new ≡ old
