-- How a constant expression is read from its front, symbol by symbol. This is the code's own way; what it finds is that of
-- the grammar.
use Rattle.std.specs.Prelude.{◌==◌, List, [], ◌∷◌, Option, Some, None, if◌then◌else◌}
use Rattle.pp_cond.specs.declared.marks.Mark.{Mark}
use Rattle.pp_cond.specs.declared.marks.Mark.TheVariants as mark
use Rattle.pp_cond.specs.declared.numbers.Number.{Number}
use Rattle.pp_cond.specs.declared.frames.Frame.{Frame}
use Rattle.pp_cond.specs.declared.frames.Frame.TheVariants.{Unary, Left, Test, Choice, Comma, Paren}
use Rattle.pp_cond.specs.declared.reader.Reader.{Reader}
use Rattle.pp_cond.specs.declared.reader.At.{At}
use Rattle.pp_cond.specs.declared.reader.At.TheVariants.{Start, Behind, Wrong}
use Rattle.pp_cond.specs.declared.symbols.Symbol.{Symbol}
use Rattle.pp_cond.specs.declared.symbols.Symbol.TheVariants as symbol
use Rattle.pp_cond.specs.Marks.{level_of, is_prefix}
use Rattle.pp_cond.specs.Frames.{reduced}

abbrev pub waits : Frame → List Frame → Reader
waits f fs = record { frames = f ∷ fs; at = Start }

abbrev pub behind : Number → List Frame → Reader
behind v fs = record { frames = fs; at = Behind v }

abbrev pub wrong : List Frame → Reader
wrong fs = record { frames = fs; at = Wrong }

abbrev pub opened : Mark → List Frame → Reader
opened mark.OpenParen fs = waits Paren fs
opened m fs = wrong fs

abbrev pub start_mark : Mark → List Frame → Reader
start_mark m fs = if is_prefix m then waits (Unary m) fs else opened m fs

abbrev pub start : Symbol → List Frame → Reader
start (symbol.Constant v) fs = behind v fs
start (symbol.Mark m) fs = start_mark m fs

abbrev pub tested : List Frame × Number → Reader
tested p = waits (Test p.1) p.0

abbrev pub test : List Frame → Number → Reader
test fs v = tested (reduced 2 fs v)

abbrev pub chosen : Frame → List Frame → Number → Reader
chosen (Test c) fs v = waits (Choice c v) fs
chosen f fs v = wrong fs

abbrev pub chosen_in : List Frame × Number → Reader
chosen_in ([], v) = wrong []
chosen_in (f ∷ fs, v) = chosen f fs v

abbrev pub choice : List Frame → Number → Reader
choice fs v = chosen_in (reduced 0 fs v)

abbrev pub comma : List Frame → Number → Reader
comma fs v = waits Comma (reduced 0 fs v).0

abbrev pub closed : Frame → List Frame → Number → Reader
closed Paren fs v = behind v fs
closed f fs v = wrong fs

abbrev pub closed_in : List Frame × Number → Reader
closed_in ([], v) = wrong []
closed_in (f ∷ fs, v) = closed f fs v

abbrev pub close : List Frame → Number → Reader
close fs v = closed_in (reduced 0 fs v)

abbrev pub operated : Mark → List Frame × Number → Reader
operated m p = waits (Left m p.1) p.0

abbrev pub operator : Mark → List Frame → Number → Reader
operator m fs v = if level_of m == 0 then wrong fs else operated m (reduced (level_of m) fs v)

abbrev pub go_on_mark : Mark → List Frame → Number → Reader
go_on_mark mark.Question fs v = test fs v
go_on_mark mark.Colon fs v = choice fs v
go_on_mark mark.Comma fs v = comma fs v
go_on_mark mark.CloseParen fs v = close fs v
go_on_mark m fs v = operator m fs v

abbrev pub go_on : Symbol → List Frame → Number → Reader
go_on (symbol.Constant w) fs v = wrong fs
go_on (symbol.Mark m) fs v = go_on_mark m fs v

abbrev pub step_at : Symbol → List Frame → At → Reader
step_at s fs Start = start s fs
step_at s fs (Behind v) = go_on s fs v
step_at s fs Wrong = wrong fs

abbrev pub step : Symbol → Reader → Reader
step s r = step_at s r.frames r.at

abbrev pub ended_with : List Frame × Number → Option Number
ended_with ([], v) = Some v
ended_with (f ∷ fs, v) = None

abbrev pub ended : List Frame → Number → Option Number
ended fs v = ended_with (reduced 0 fs v)

abbrev pub finished_at : List Frame → At → Option Number
finished_at fs Start = None
finished_at fs (Behind v) = ended fs v
finished_at fs Wrong = None

abbrev pub finished : Reader → Option Number
finished r = finished_at r.frames r.at

abbrev pub at_first : Reader
at_first = record { frames = []; at = Start }

-- the value of what is read
abbrev pub run : Reader → List Symbol → Option Number
run r [] = finished r
run r (s ∷ ss) = run (step s r) ss
