-- A call of the server as its ends tell it.
use Rattle.std.specs.Prelude.{◌≡◌, ◌+◌, ◌-◌, ℕ, List, ◌++◌, take, drop, length, map, Option, Some, None}
use Rattle.io_edges.specs.Store.{Entry}
use Rattle.io_edges.specs.Wire.{Traffic}
use Rattle.io_edges.specs.declared.ends.Mark.{Mark}

-- What a call did: the bytes that the source had left at its entry, those that it took, what the sink got, for each
-- read the numbers of bytes that the call had taken and written before it, and the answers that the store gave.
pub record Call : Type 0 where
  pub left : List ℕ
  pub taken : List ℕ
  pub out : List ℕ
  pub moments : List Mark
  pub answers : List Entry

-- a mark, counted from the entry of the call
abbrev pub since : Traffic → Mark → Mark
since old mark = record { taken = mark.taken - old.taken; written = mark.written - length old.written }

-- the call, from what the wire tells before and after it, with the answers that the store gave in it
unfoldable pub call_of : Traffic → Traffic → List Entry → Call
call_of old new answers = record {
  left = old.left;
  taken = take (new.taken - old.taken) old.left;
  out = drop (length old.written) new.written;
  moments = map (since old) (drop (length old.marks) new.marks);
  answers = answers;
}

-- what was left is what was taken and what is left now, and what was written and marked stands before what the call added
pub record AddsUp (old new : Traffic) (call : Call) : Type 0 where
  pub left : old.left ≡ call.taken ++ new.left
  pub taken : new.taken ≡ old.taken + length call.taken
  pub written : new.written ≡ old.written ++ call.out
  pub marked : take (length old.marks) new.marks ≡ old.marks

-- a fact of the wire before and after a call, where it tells what it has: then it goes on telling
abbrev pub IfTold : Option Traffic → Option Traffic → (Traffic → Traffic → Type 0) → Type 0
IfTold None new P = Unit {0}
IfTold (Some old) None P = ⊥
IfTold (Some old) (Some new) P = P old new
