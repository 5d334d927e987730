-- What is kept of the units of a character constant while it is read: all of them up to four.
use Rattle.std.specs.Prelude.{◌≡◌, ℕ, List, [], ◌∷◌, Option, Some, None}
use Rattle.c_literals.specs.declared.literal.Literal.{Literal}
use Rattle.c_literals.specs.declared.literal.Literal.TheVariants as literal
use Rattle.c_literals.specs.declared.prefix.Prefix.{Prefix}
use Rattle.c_literals.specs.declared.seen.Seen.{Seen}
use Rattle.c_literals.specs.declared.seen.Seen.TheVariants as seen
use Rattle.c_literals.specs.CChars.{CChar}
use Rattle.c_literals.specs.Units.{joined, one_unit, units}
use Rattle.c_literals.specs.Character.{of_units}

-- the units; past four of them it matters no more which they are
abbrev pub shown : Seen → Option (List ℕ)
shown seen.Faulty = None
shown seen.Nothing = Some []
shown (seen.One a) = Some (a ∷ [])
shown (seen.Two a b) = Some (a ∷ b ∷ [])
shown (seen.Three a b c) = Some (a ∷ b ∷ c ∷ [])
shown (seen.Four a b c d) = Some (a ∷ b ∷ c ∷ d ∷ [])
shown seen.Many = Some (0 ∷ 0 ∷ 0 ∷ 0 ∷ 0 ∷ [])

-- the constant of what was seen and of more units
abbrev pub with_more : Prefix → Seen → Option (List ℕ) → Literal
with_more p s more = of_units p (joined (shown s) more)

-- `after` is what is seen when these units follow `s`
abbrev pub Adds : Prefix → Seen → Option (List ℕ) → Seen → Type 0
Adds p s us after = (more : List ℕ) → with_more p after (Some more) ≡ with_more p s (joined us (Some more))

-- the constant of what was seen and of the c-chars that follow in front of the closing quote
abbrev pub goes_on : Prefix → Seen → Option (List CChar) → Literal
goes_on p s (Some es) = with_more p s (units p es)
goes_on p s None = literal.Bad 102

-- the units of an escape with this value, or of none
abbrev pub units_at : Prefix → Option ℕ → Option (List ℕ)
units_at p (Some n) = one_unit p n
units_at p None = None
