-- The store in memory: its files, and what it answers.
use Rattle.std.specs.Prelude.{◌≡◌, ◌+◌, ◌==◌, ◌&&◌, ◌||◌, if◌then◌else◌, not, nat_lt, nat_eq, Bool, true, false, ℕ, Option, Some, None, List, [], ◌∷◌, ◌++◌, length, drop, map, option_map, reverse}
use Rattle.std.specs.List.{find, list_any, starts_with}
use Rattle.std.specs.Str.{bytes_eq}
use Rattle.io_edges.specs.Memory.{next_number, is_listed}
use Rattle.io_edges.specs.Store.{Call, ListCall, ReadCall, Entry, Lists, Reads}
use Rattle.io_edges.specs.declared.ends.Listed.{Listed}
use Rattle.io_edges.specs.declared.ends.Listed.TheVariants.{File}
use Rattle.io_edges.specs.declared.ends.Found.{Found}
use Rattle.io_edges.specs.declared.ends.Found.TheVariants.{Absent, TooLarge, Bytes}
use Rattle.io_edges.specs.declared.ends.StoreFail.{StoreFail}
use Rattle.io_edges.specs.declared.ends.StoreFail.TheVariants.{Failed, NoMemory}

-- whether a file of these has this path
abbrev pub has_path : List (List ℕ × List ℕ) → List ℕ → Bool
has_path files path = list_any (λ f. bytes_eq f.0 path) files

-- the bytes of the file with this path: of the last one that has it
abbrev pub bytes_at : List (List ℕ × List ℕ) → List ℕ → Option (List ℕ)
bytes_at files path = option_map (λ f. f.1) (find (λ f. bytes_eq f.0 path) (reverse files))

-- what is found: files of more than 4,194,304 bytes are too large
abbrev pub found_in : Option (List ℕ) → Found
found_in None = Absent
found_in (Some bytes) = if nat_lt 4194304 (length bytes) then TooLarge else Bytes bytes

-- what a store with these files has at a path
abbrev pub found_at : List (List ℕ × List ℕ) → List ℕ → Found
found_at files path = found_in (bytes_at files path)

-- whether nothing is left of a path, or the rest begins with a slash
abbrev pub ends_component : List ℕ → Bool
ends_component [] = true
ends_component (c ∷ cs) = c == 47

-- whether a path stands under a root: everything is under `/`, and a root is under itself
abbrev pub is_under : List ℕ → List ℕ → Bool
is_under root path = bytes_eq root (47 ∷ []) || (starts_with nat_eq path root && ends_component (drop (length root) path))

-- the paths of the files under a root, each once
abbrev pub listed : List (List ℕ × List ℕ) → List ℕ → List Listed
listed [] root = []
listed (f ∷ fs) root = if is_under root f.0 && not (has_path fs f.0) then File f.0 ∷ listed fs root else listed fs root

-- the answer of a store in memory with these files to a call
abbrev pub answer_of : List (List ℕ × List ℕ) → Call → Entry
answer_of files (ListCall root) = Lists root (listed files root)
answer_of files (ReadCall path) = Reads path (found_at files path)

-- A store in memory: its files, path and bytes, the numbers of the reads that fail, the calls that it answered, the
-- number of reads so far, and the faults so far.
pub record MemoryStore : Type 0 where
  pub files : List (List ℕ × List ℕ)
  pub failing : List ℕ
  pub calls : List Call
  pub reads : ℕ
  pub faults : ℕ

-- its answers so far
abbrev pub answers_of : MemoryStore → List Entry
answers_of s = map (answer_of s.files) s.calls

-- whether the next read fails: its number is listed
abbrev pub store_fails : MemoryStore → Bool
store_fails s = is_listed s.failing (next_number s.reads)

-- after a list of a root
abbrev pub store_listed : MemoryStore → List ℕ → MemoryStore
store_listed s root = record s { calls = s.calls ++ ListCall root ∷ [] }

-- after a read that was answered
abbrev pub store_read : MemoryStore → List ℕ → MemoryStore
store_read s path = record s { calls = s.calls ++ ReadCall path ∷ []; reads = next_number s.reads }

-- whether a refusal is a fault
abbrev pub is_fault : StoreFail → Bool
is_fault Failed = true
is_fault NoMemory = false

-- how a read that gave no answer leaves the store: a fault counts, and want of memory changes nothing
abbrev pub IsRefused : StoreFail → MemoryStore → MemoryStore → Type 0
IsRefused Failed old new = new ≡ record old { reads = next_number old.reads; faults = old.faults + 1 }
IsRefused NoMemory old new = new ≡ old
