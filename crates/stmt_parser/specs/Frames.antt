-- Statements that are read up to a place, with what awaits a statement there (ISO C11 6.8.4.1, 6.8.5.2).
use Rattle.std.specs.Prelude.{◌≡◌, ℕ, ◌+◌, ◌<◌, ◌≤◌, length, List, [], ◌∷◌, true}
use Rattle.tree_data.specs.Seen.{tree_of}
use Rattle.tree_data.specs.Stated.{stmt_of, leads_of}
use Rattle.tree_data.specs.Statements.{Statement, Lead, No_leads, leads, led, take_no_else}
use Rattle.c_parser.specs.declared.kinds.Kind.TheVariants as kind
use Rattle.c_parser.specs.Parts.{past_tree}
use Rattle.c_parser.specs.Words.{Words, kind_in}
use Rattle.stmt_parser.specs.declared.frames.Opener.{Opener}
use Rattle.stmt_parser.specs.declared.frames.Opener.TheVariants as opener
use Rattle.stmt_parser.specs.declared.frames.Frame.{Frame}
use Rattle.stmt_parser.specs.declared.frames.Settled.{Settled}
use Rattle.stmt_parser.specs.declared.frames.Settled.TheVariants as settled
use Rattle.stmt_parser.specs.declared.frames.Progress.{Progress}
use Rattle.stmt_parser.specs.declared.frames.Progress.TheVariants as progress
use Rattle.stmt_parser.specs.Found.{FoundTest, FoundStatement}
use Rattle.stmt_parser.specs.InForce.{all_inside}
use Rattle.stmt_parser.specs.Reading.{HoldsStatement, HoldLeads, Ends}

-- a statement stands from here to b
pub record Further (v : Words) (place b : ℕ) : Type 0 where
  pub rest : Statement
  pub reads : HoldsStatement v rest place b
  pub ends : Ends v rest b

-- these leads stand from a to `place`, where v is in force, and every statement from a on goes on from there
pub record Leading (w : Words) (a : ℕ) (xs : List Lead) (v : Words) (place : ℕ) : Type 0 where
  pub inner : v ≡ all_inside w (leads xs No_leads)
  pub holds : HoldLeads w (leads xs No_leads) a place
  pub closed : take_no_else (leads xs No_leads) ≡ true
  pub kinds : v.kinds ≡ w.kinds
  pub forth : a ≤ place
  pub within : place ≤ length w.kinds
  pub goes : (s : Statement) → (b : ℕ) → HoldsStatement w s a b → Ends w s b → Further v place b

-- `if ( expression )` or `do`, and the place behind it
abbrev pub Opens : Words → ℕ → Opener → Type 0
Opens w a (opener.If t c) = (kind_in w a ≡ kind.If) × FoundTest w (a + 1) (tree_of t) c
Opens w a opener.Do = kind_in w a ≡ kind.Do

abbrev pub behind_opener : ℕ → Opener → ℕ
behind_opener a (opener.If t c) = c + 1
behind_opener a opener.Do = a + 1

-- the identifiers in force there
abbrev pub inside_opener : Words → Opener → Words
inside_opener w (opener.If t c) = past_tree w (tree_of t)
inside_opener w opener.Do = w

-- from the outermost in: leads from a on and an opener behind them; the statement that the last one awaits begins at b
abbrev pub Stacked : Words → ℕ → List Frame → Words → ℕ → Type 0
Stacked w a [] v b = (v ≡ w) × (b ≡ a)
Stacked w a (f ∷ fs) v b =
    Leading w a (leads_of f.leads.items) f.scope f.at × Opens f.scope f.at f.opener
    × Stacked (inside_opener f.scope f.opener) (behind_opener f.at f.opener) fs v b

-- leads behind these frames
pub record Pending (w : Words) (a : ℕ) (fs : List Frame) (xs : List Lead) (v : Words) (place : ℕ) : Type 0 where
  pub base : Words
  pub start : ℕ
  pub stacked : Stacked w a fs base start
  pub leading : Leading base start xs v place
  pub kinds : v.kinds ≡ w.kinds
  pub forth : a ≤ place
  pub within : place ≤ length w.kinds

-- a statement behind these frames
pub record Awaited (w : Words) (a : ℕ) (fs : List Frame) (s : Statement) (b : ℕ) : Type 0 where
  pub base : Words
  pub start : ℕ
  pub stacked : Stacked w a fs base start
  pub found : FoundStatement base start s b

-- a statement with these in front of it, the last of them first in the list
abbrev pub led_back : List Lead → Statement → Statement
led_back [] s = s
led_back (l ∷ ls) s = led_back ls (led (l ∷ []) s)

-- a frame whose statement was read
abbrev pub Settles : Words → ℕ → Settled → Type 0
Settles w a (settled.Whole ls s b) = FoundStatement w a (led_back (leads_of ls.items) (stmt_of s)) b
Settles w a (settled.Goes ls v b) = Leading w a (leads_of ls.items) v b

abbrev pub SettlesPast : ℕ → Settled → Type 0
SettlesPast end (settled.Whole ls s b) = end ≤ b
SettlesPast end (settled.Goes ls v b) = end < b

-- a statement that is read, or read up to a place
abbrev pub Goes : Words → ℕ → Progress → Type 0
Goes w a (progress.Whole s b) = FoundStatement w a (stmt_of s) b
Goes w a (progress.Goes fs ls v b) = Pending w a fs.items (leads_of ls.items) v b

abbrev pub GoesPast : ℕ → Progress → Type 0
GoesPast end (progress.Whole s b) = Unit {0}
GoesPast end (progress.Goes fs ls v b) = end < b
