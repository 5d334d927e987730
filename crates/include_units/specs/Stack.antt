-- What is left of a unit, and what a step leaves of it.
use Rattle.std.specs.Prelude.{◌≡◌, ℕ, List, [], ◌∷◌, Option, None, Some}
use Rattle.asking.specs.Asking.{Gives}
use Rattle.asking.specs.LookUps.{Needs, look_up, run_by}
use Rattle.project_conf.specs.declared.conf.UnitConf.{UnitConf}
use Rattle.include_units.specs.declared.types.FileAnswer.{FileAnswer}
use Rattle.include_units.specs.declared.types.UnitTokens.{UnitTokens}
use Rattle.include_units.specs.declared.types.Want.{Want}
use Rattle.include_units.specs.declared.stack.Reading.{Reading}
use Rattle.include_units.specs.declared.stack.Step.{Step}
use Rattle.include_units.specs.declared.stack.Step.TheVariants as step
use Rattle.include_units.specs.Coming.{question}
use Rattle.include_units.specs.Files.{files, FromFiles}
use Rattle.include_units.specs.Units.{told, unit_tokens}
use Rattle.include_units.specs.Left.{stack_left}
use Rattle.include_units.specs.Rests.{rest_of}

abbrev pub reading_left : List (List ℕ) → Reading → FromFiles UnitTokens
reading_left folders r = stack_left folders r.frames r.later r.made

abbrev pub rest_by : List (List ℕ × FileAnswer) → FromFiles UnitTokens → FromFiles UnitTokens
rest_by answers asking = rest_of (look_up files answers) asking

-- a step leaves what was left before it; it needs what that needs, or all is read
abbrev pub IsStep : List (List ℕ × FileAnswer) → List (List ℕ) → FromFiles UnitTokens → Reading → Step → Type 0
IsStep answers folders before r step.On = rest_by answers before ≡ rest_by answers (reading_left folders r)
IsStep answers folders before r (step.Need want) =
    (rest_by answers before ≡ rest_by answers (reading_left folders r))
    × (run_by (look_up files answers) (reading_left folders r) ≡ Needs (question want ∷ []))
IsStep answers folders before r step.Done = rest_by answers before ≡ Gives (told r.made)

-- what it is read as far as
abbrev pub IsStopped : List (List ℕ × FileAnswer) → List (List ℕ) → FromFiles UnitTokens → Reading → Option Want → Type 0
IsStopped answers folders before r None = rest_by answers before ≡ Gives (told r.made)
IsStopped answers folders before r (Some want) =
    (rest_by answers before ≡ rest_by answers (reading_left folders r))
    × (run_by (look_up files answers) (reading_left folders r) ≡ Needs (question want ∷ []))

-- What was read of a unit is right over these answers; where nothing was, it begins at its front. The invariant of a unit doesn't
-- unfold by itself, since its callers would compute the whole unit.
unfoldable pub IsRead : UnitConf → List (List ℕ × FileAnswer) → Option Reading → Type 0
IsRead conf answers None = Unit {0}
IsRead conf answers (Some r) = rest_by answers (reading_left conf.includes r) ≡ rest_by answers (unit_tokens conf)
