-- What is kept of the units of a string literal while it is read.
use Rattle.std.specs.Prelude.{◌≡◌, ℕ, Bool, true, false, List, if◌then◌else◌}
use Rattle.std.specs.declared.result.Result.{Result}
use Rattle.std.specs.declared.result.Result.TheVariants.{Ok, Err}
use Rattle.c_literals.specs.declared.strings.LitError.{LitError}
use Rattle.c_literals.specs.declared.strings.LitError.TheVariants as error
use Rattle.c_literals.specs.declared.strings.StrValue.{StrValue}
use Rattle.c_literals.specs.declared.text.Text.{Text}
use Rattle.c_literals.specs.declared.prefix.Prefix.{Prefix}
use Rattle.c_literals.specs.CChars.{c_chars, closed}
use Rattle.c_literals.specs.Strings.{Piece, Outcome, Open, Faulty, Units, Literal, Bad, Of}

abbrev pub kept : Text → Outcome
kept t = if t.faulty then Faulty else Units t.units.items

-- what was read, where its closing quote was found, else an open literal
abbrev pub ended : Bool → Outcome → Outcome
ended true x = x
ended false x = Open

abbrev pub Refuses : LitError → Literal → Type 0
Refuses (error.Bad rule) l = l ≡ Bad rule
Refuses error.NoMemory l = Unit {0}

-- an answer says what the pieces are; want of memory is free
abbrev pub Answers : Result StrValue LitError → Literal → Type 0
Answers (Ok v) l = l ≡ Of (record { prefix = v.prefix; units = v.units })
Answers (Err e) l = Refuses e l

-- a piece with this prefix, by what is behind its opening quote
abbrev pub of_parts : Prefix → List ℕ → Piece
of_parts p cs = record { coded = p; content = closed 34 (c_chars cs) }
