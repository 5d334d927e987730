-- How a read of a wire in memory changes what it holds and what it tells.
use Rattle.std.proofs.Common.{◌==◌, ◌≡◌, ◌+◌, ◌<◌, ℕ, false, List, [], ◌∷◌, ◌++◌, length, drop, refl, arith}
use Rattle.io_edges.specs.declared.ends.Mark.{Mark}
use Rattle.io_edges.specs.Wire.{Traffic, mark_of, after_read}
use Rattle.io_edges.specs.Memory.{MemoryWire, traffic, after_taking, next_number, wire_read}

-- what is told after a read that took bytes
pub told_after : (bs : List ℕ) (n taken : ℕ) (left left' written : List ℕ) (marks marks' : List Mark) (mark : Mark) → length bs ≡ n → 0 < n
    → left' ≡ drop n left → mark ≡ record { taken = taken; written = length written } → marks' ≡ marks ++ mark ∷ []
    → ◌≡◌ {A = Traffic} (record { left = left'; taken = taken + n; written = written; marks = marks' })
    (after_read bs (record { left = left; taken = taken; written = written; marks = marks }))
told_after [] n taken left left' written marks marks' mark l h d m p = absurd (omega arith)
told_after (b ∷ bs) n taken left left' written marks marks' mark l h d m p = rw (d, p, m, ← l) refl

unequal : (n : ℕ) → 0 < n → (n == 0) ≡ false
unequal n h = grind arith

-- what is held after a read that took bytes
pub held_after : (w : MemoryWire) (n : ℕ) (pieces : List (List ℕ)) (reads : ℕ) (mark : Mark) (marks : List Mark) → 0 < n
    → pieces ≡ after_taking n w.pieces → reads ≡ next_number w.reads → mark ≡ mark_of (traffic w) → marks ≡ w.marks ++ mark ∷ []
    → ◌≡◌ {A = MemoryWire} (record { pieces = pieces; taken = w.taken + n; marks = marks; failing = w.failing; reads = reads; faults = w.faults; sink = w.sink })
    (wire_read w n)
held_after w n pieces reads mark marks h p r m e = rw (p, e, r, m, unequal n h) refl
