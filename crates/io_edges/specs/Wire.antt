-- What a wire tells of its bytes, and how a read and a write change it.
use Rattle.std.specs.Prelude.{◌+◌, ℕ, List, [], ◌∷◌, ◌++◌, length, drop}
use Rattle.io_edges.specs.declared.ends.Mark.{Mark}

-- What a wire tells: the bytes that its source has left, the number of bytes taken from it, the bytes written
-- to its sink, and for each read that took bytes, in order, the numbers of bytes taken and written before it.
pub record Traffic : Type 0 where
  pub left : List ℕ
  pub taken : ℕ
  pub written : List ℕ
  pub marks : List Mark

-- the numbers of bytes taken and written so far
abbrev pub mark_of : Traffic → Mark
mark_of t = record { taken = t.taken; written = length t.written }

-- after a read that took these bytes; one that takes none changes nothing
abbrev pub after_read : List ℕ → Traffic → Traffic
after_read [] t = t
after_read (b ∷ bs) t = record {
  left = drop (length (b ∷ bs)) t.left;
  taken = t.taken + length (b ∷ bs);
  written = t.written;
  marks = t.marks ++ mark_of t ∷ [];
}

-- after a write that took these bytes
abbrev pub after_write : List ℕ → Traffic → Traffic
after_write bytes t = record { left = t.left; taken = t.taken; written = t.written ++ bytes; marks = t.marks }
