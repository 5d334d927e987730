-- What was read at the front of a statement.
use Rattle.std.specs.Prelude.{◌≡◌, ℕ, ◌<◌, ◌≤◌, length, List, Option, Some, None, Bool, true, false, if◌then◌else◌}
use Rattle.tree_data.specs.Stated.{lead_of, stmt_of}
use Rattle.tree_data.specs.Statements.{Lead, Stated_of}
use Rattle.c_parser.specs.declared.kinds.Kind.{Kind}
use Rattle.c_parser.specs.declared.kinds.Kind.TheVariants.{Identifier, TypeName, Case, Default}
use Rattle.c_parser.specs.Words.{Words, kind_in}
use Rattle.stmt_parser.specs.declared.frames.Frame.{Frame}
use Rattle.stmt_parser.specs.declared.frames.Opener.{Opener}
use Rattle.stmt_parser.specs.declared.frames.Progress.{Progress}
use Rattle.stmt_parser.specs.declared.frames.Progress.TheVariants as progress
use Rattle.stmt_parser.specs.declared.steps.Step.{Step}
use Rattle.stmt_parser.specs.declared.steps.Step.TheVariants.{Led, Opened, Whole}
use Rattle.stmt_parser.specs.Found.{FoundLead, FoundStatement}
use Rattle.stmt_parser.specs.Frames.{Opens, behind_opener, Pending}
use Rattle.stmt_parser.specs.InForce.{inside, past_item}

-- an opener up to b
pub record FoundOpener (w : Words) (a : ℕ) (o : Opener) (b : ℕ) : Type 0 where
  pub opens : Opens w a o
  pub behind : b ≡ behind_opener a o
  pub forth : a < b
  pub inside : b ≤ length w.kinds

abbrev pub FoundStep : Words → ℕ → Step → ℕ → Type 0
FoundStep w a (Led l) b = FoundLead w a (lead_of l) b
FoundStep w a (Opened o) b = FoundOpener w a o b
FoundStep w a (Whole s) b = FoundStatement w a (stmt_of s) b

-- the identifiers in force behind it
abbrev pub behind_step : Words → Step → Words
behind_step w (Led l) = inside w (lead_of l)
behind_step w (Opened o) = w
behind_step w (Whole s) = past_item w (Stated_of (stmt_of s))

-- a label begins so (6.8.1)
abbrev pub begins_label : Kind → Bool
begins_label Identifier = true
begins_label (TypeName n) = true
begins_label Case = true
begins_label Default = true
begins_label _ = false

-- what is in force behind a statement that this step at `a` tells of, where all in front of it are labels: such as a label don't end it, a
-- scope of its own leaves what is in force in front of it (6.8.4p3, 6.8.5p5)
abbrev pub told : Words → ℕ → Step → Words → Option Words
told w a (Led l) v = if begins_label (kind_in w a) then None else Some w
told w a (Opened o) v = Some w
told w a (Whole s) v = Some v

-- once it was told nothing changes it
abbrev pub outer_of : Option Words → Option Words → Option Words
outer_of (Some u) o = Some u
outer_of None o = o

-- a lead goes on behind itself
abbrev pub GoesOn : Step → Words → ℕ → Progress → Type 0
GoesOn (Led l) v n (progress.Whole s b) = Unit {0}
GoesOn (Led l) v n (progress.Goes fs ls u b) = (u ≡ v) × (b ≡ n)
GoesOn (Opened o) v n p = Unit {0}
GoesOn (Whole s) v n p = Unit {0}

-- a step at `place`, behind frames and leads; v is in force behind it
pub record Stepped (w : Words) (a : ℕ) (fs : List Frame) (xs : List Lead) (place : ℕ) (step : Step) (v : Words) (next : ℕ) : Type 0 where
  pub before : Words
  pub pending : Pending w a fs xs before place
  pub found : FoundStep before place step next
  pub past : v ≡ behind_step before step
