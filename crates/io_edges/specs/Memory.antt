-- The ends in memory: what each holds, and what a call of it gives and leaves.
use Rattle.std.specs.Prelude.{if◌then◌else◌, ◌+◌, ◌-◌, ◌==◌, ◌||◌, ℕ, Bool, List, [], ◌∷◌, ◌++◌, length, drop, min}
use Rattle.std.specs.List.{list_any, concat}
use Rattle.io_edges.specs.Wire.{Traffic, mark_of}
use Rattle.io_edges.specs.declared.ends.Mark.{Mark}

-- The number of the call that comes after so many calls. The first call has the number 1; numbers end at 2 ^ 64 - 1,
-- which every call after that has too.
abbrev pub next_number : ℕ → ℕ
next_number calls = min (calls + 1) 18446744073709551615

-- whether a list of numbers of calls has this one
abbrev pub is_listed : List ℕ → ℕ → Bool
is_listed failing number = list_any (λ n. n == number) failing

-- A sink in memory: the bytes written so far, the most bytes that one call takes, the numbers of the calls that fail,
-- the number of calls so far, and the faults so far.
pub record MemorySink : Type 0 where
  pub written : List ℕ
  pub most : ℕ
  pub failing : List ℕ
  pub calls : ℕ
  pub faults : ℕ

-- the bytes for which there is room yet; there was room for 4,194,304 at first
abbrev pub room : MemorySink → ℕ
room s = 4194304 - length s.written

-- whether the next write fails: its number is listed, or no room is left
abbrev pub write_fails : MemorySink → Bool
write_fails s = is_listed s.failing (next_number s.calls) || room s == 0

-- how many of so many bytes a write that doesn't fail takes
abbrev pub write_takes : MemorySink → ℕ → ℕ
write_takes s given = min (min s.most given) (room s)

-- after a write that took these bytes
abbrev pub sink_wrote : MemorySink → List ℕ → MemorySink
sink_wrote s bytes = record s { written = s.written ++ bytes; calls = next_number s.calls }

-- after a write that failed
abbrev pub sink_failed : MemorySink → MemorySink
sink_failed s = record s { calls = next_number s.calls; faults = s.faults + 1 }

-- what is left of a list of pieces behind the empty ones at its front
abbrev pub skip_empty : List (List ℕ) → List (List ℕ)
skip_empty [] = []
skip_empty ([] ∷ ps) = skip_empty ps
skip_empty ((b ∷ bs) ∷ ps) = (b ∷ bs) ∷ ps

-- the first piece; no bytes where there is none
abbrev pub head_piece : List (List ℕ) → List ℕ
head_piece [] = []
head_piece (p ∷ ps) = p

-- the pieces without the first n bytes of the first one
abbrev pub cut_head : ℕ → List (List ℕ) → List (List ℕ)
cut_head n [] = []
cut_head n (p ∷ ps) = drop n p ∷ ps

-- the first piece that isn't empty, from which a read takes; no bytes where there is none
abbrev pub next_piece : List (List ℕ) → List ℕ
next_piece pieces = head_piece (skip_empty pieces)

-- what is left of the pieces once n bytes of the next one are taken
abbrev pub after_taking : ℕ → List (List ℕ) → List (List ℕ)
after_taking n pieces = cut_head n (skip_empty pieces)

-- A wire in memory: what is left of its pieces, the number of bytes taken from them, the marks of the reads that took
-- bytes, the numbers of the reads that fail, the number of reads so far, the faults of its source so far, and its sink.
pub record MemoryWire : Type 0 where
  pub pieces : List (List ℕ)
  pub taken : ℕ
  pub marks : List Mark
  pub failing : List ℕ
  pub reads : ℕ
  pub faults : ℕ
  pub sink : MemorySink

-- what it tells
abbrev pub traffic : MemoryWire → Traffic
traffic w = record { left = concat w.pieces; taken = w.taken; written = w.sink.written; marks = w.marks }

-- whether the next read fails: its number is listed
abbrev pub read_fails : MemoryWire → Bool
read_fails w = is_listed w.failing (next_number w.reads)

-- how many bytes a read that doesn't fail takes into so many places: never more than one piece has
abbrev pub read_takes : MemoryWire → ℕ → ℕ
read_takes w places = min places (length (next_piece w.pieces))

-- the marks after a read that took n bytes: one more, unless it took none
abbrev pub marks_after : MemoryWire → ℕ → List Mark
marks_after w n = if n == 0 then w.marks else w.marks ++ mark_of (traffic w) ∷ []

-- after a read that took n bytes
abbrev pub wire_read : MemoryWire → ℕ → MemoryWire
wire_read w n = record w {
  pieces = after_taking n w.pieces;
  taken = w.taken + n;
  marks = marks_after w n;
  reads = next_number w.reads;
}

-- after a read that failed
abbrev pub wire_failed : MemoryWire → MemoryWire
wire_failed w = record w { reads = next_number w.reads; faults = w.faults + 1 }
