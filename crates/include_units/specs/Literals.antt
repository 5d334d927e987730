-- Literals that their line leaves open (rule 102), each shown once in a unit.
use Rattle.std.specs.Prelude.{ℕ, ◌==◌, ◌&&◌, not, Bool, true, false, List, [], ◌∷◌, if◌then◌else◌}
use Rattle.tok_data.specs.declared.tokens.PpKind.{PpKind}
use Rattle.tok_data.specs.declared.tokens.PpKind.TheVariants.{Char, Str}
use Rattle.tok_data.specs.declared.tokens.OutToken.{OutToken}
use Rattle.include_units.specs.Made.{Made, with_fault}
use Rattle.include_units.specs.Shown.{is_shown}

-- the text ends in a quote that closes the literal: an escape takes two characters. `escaped` says that the next
-- character belongs to an escape, `closed` that the one before it was a quote that closes
abbrev pub closes : ℕ → Bool → Bool → List ℕ → Bool
closes quote escaped closed [] = closed
closes quote true closed (c ∷ cs) = closes quote false false cs
closes quote false closed (c ∷ cs) = closes quote (c == 92) (c == quote) cs

-- behind its prefix and its first quote
abbrev pub is_closed : ℕ → List ℕ → Bool
is_closed quote [] = false
is_closed quote (c ∷ cs) = if c == quote then closes quote false false cs else is_closed quote cs

abbrev pub is_open_by : PpKind → List ℕ → Bool
is_open_by Char text = not (is_closed 39 text)
is_open_by Str text = not (is_closed 34 text)
is_open_by _ text = false

abbrev pub is_open : OutToken → Bool
is_open t = is_open_by t.kind t.spelling

abbrev pub shown_open : OutToken → Made → Made
shown_open t m = if is_open t && not (is_shown 102 t.site m.faults) then with_fault 102 t.site [] m else m

-- of the tokens of a line in a group that is taken
abbrev pub all_open : List OutToken → Made → Made
all_open [] m = m
all_open (t ∷ ts) m = all_open ts (shown_open t m)

abbrev pub open_where : Bool → List OutToken → Made → Made
open_where true ts m = all_open ts m
open_where false ts m = m
