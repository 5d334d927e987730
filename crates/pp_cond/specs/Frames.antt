-- What an expression that is read from its front waits for, the innermost first.
use Rattle.std.specs.Prelude.{ℕ, nat_le, Bool, false, List, [], ◌∷◌, Option, Some, None, if◌then◌else◌}
use Rattle.pp_cond.specs.declared.numbers.Number.{Number}
use Rattle.pp_cond.specs.declared.frames.Frame.{Frame}
use Rattle.pp_cond.specs.declared.frames.Frame.TheVariants.{Unary, Left, Test, Choice, Comma, Paren}
use Rattle.pp_cond.specs.Marks.{level_of}
use Rattle.pp_cond.specs.Numbers.{unary, binary, choice, comma}

-- what is waited for ends before an operator of this level
abbrev pub binds : ℕ → Frame → Bool
binds n (Unary m) = nat_le n 12
binds n (Left m a) = nat_le n (level_of m)
binds n (Choice c a) = nat_le n 1
binds n Comma = nat_le n 0
binds n (Test c) = false
binds n Paren = false

abbrev pub completed : Frame → Number → Number
completed (Unary m) v = unary m v
completed (Left m a) v = binary m a v
completed (Choice c a) v = choice c a v
completed Comma v = comma v
completed (Test c) v = v
completed Paren v = v

abbrev pub front : List Frame → Option Frame
front [] = None
front (f ∷ fs) = Some f

abbrev pub rest : List Frame → List Frame
rest [] = []
rest (f ∷ fs) = fs

-- the innermost frame where it binds, and the frames without it
abbrev pub bound : ℕ → List Frame → Option Frame
bound n [] = None
bound n (f ∷ fs) = if binds n f then Some f else None

abbrev pub unbound : ℕ → List Frame → List Frame
unbound n [] = []
unbound n (f ∷ fs) = if binds n f then fs else f ∷ fs

abbrev pub reduced : ℕ → List Frame → Number → List Frame × Number
reduced n [] v = ([], v)
reduced n (f ∷ fs) v = if binds n f then reduced n fs (completed f v) else (f ∷ fs, v)
