-- A generated run: the contents of a generated session, handed to a session whose store gives no answer, and what its texts come to.
use Rattle.std.specs.Prelude.{◌≡◌, ◌+◌, ◌*◌, ℕ, List, [], ◌∷◌, ◌++◌, codes, decimal, Option, option_and_then}
use Rattle.io_edges.specs.Wire.{Traffic}
use Rattle.gen_project.specs.Script.{contents}
use Rattle.project_conf.specs.Words.{options_in}
use Rattle.project_conf.specs.declared.options.Options.{Options}
use Rattle.c_session.specs.Counts.{counts_of}
use Rattle.c_session.specs.React.{Reaction, Replies, Wants, react}
use Rattle.c_session.specs.State.{State, fresh}
use Rattle.c_session.specs.declared.counts.Counts.{Counts}
use Rattle.c11ls.specs.Serve.{Begins}
use Rattle.c11ls.specs.declared.status.Status.{Status}
use Rattle.c11ls.specs.declared.status.Status.TheVariants as status

-- the number of units that words ask for, where they ask for a generated run
abbrev pub run_asked : List (List ℕ) → Option ℕ
run_asked words = option_and_then (λ options. options.generate) (options_in words)

-- ---- what is printed

-- the state behind a reaction; one that wants an answer of the store leaves it
abbrev pub state_behind : State → Reaction → State
state_behind s (Replies s' bytes end used) = s'
state_behind s (Wants call) = s

-- the state that contents leave, without an answer of the store
abbrev pub left_by : State → List (List ℕ) → State
left_by s [] = s
left_by s (content ∷ more) = left_by (state_behind s (react s content [])) more

abbrev pub counts : Options → ℕ → Counts
counts options n = counts_of (left_by (fresh options) (contents n))

abbrev pub line : List ℕ → ℕ → List ℕ
line name number = (name ++ decimal number) ++ codes "\n"

-- three lines: how many contents there are, how many units, and how many faults all files show
abbrev pub lines : ℕ → Counts → List ℕ
lines n c = (line (codes "messages ") (2 * n + 5) ++ line (codes "units ") c.units) ++ line (codes "faults ") c.faults

unfoldable pub printed : Options → ℕ → List ℕ
printed options n = lines n (counts options n)

-- ---- what a run promises, by the status that it ends with

-- it ends in one of three ways
abbrev pub EndsRun : Status → Type 0
EndsRun status.Done = Unit {0}
EndsRun status.WriteFault = Unit {0}
EndsRun status.NoMemory = Unit {0}
EndsRun status.Unclean = ⊥
EndsRun status.Usage = ⊥
EndsRun (status.BadFrame place kind) = ⊥
EndsRun status.ReadFault = ⊥
EndsRun status.StoreFault = ⊥
EndsRun status.LongInput = ⊥

-- the sink got the lines; at a fault of the sink a front of them, and for want of memory nothing
abbrev pub HasPrinted : Options → ℕ → Status → List ℕ → Type 0
HasPrinted options n status.WriteFault out = Begins out (printed options n)
HasPrinted options n status.NoMemory out = out ≡ []
HasPrinted options n ended out = out ≡ printed options n

-- Nothing was read, and the sink got what the status says.
pub record Generated (options : Options) (n : ℕ) (ended : Status) (old new : Traffic) : Type 0 where
  pub out : List ℕ
  pub printed : HasPrinted options n ended out
  pub wrote : new ≡ record { left = old.left; taken = old.taken; written = old.written ++ out; marks = old.marks }
