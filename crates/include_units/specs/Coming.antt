-- What a call that reads a part of a unit comes to, beside the definition's run over the same answers.
use Rattle.std.specs.Prelude.{◌≡◌, ℕ, ◌≤◌, List, [], ◌∷◌, length, All, Result, Ok, Err}
use Rattle.asking.specs.LookUps.{Ends, Needs, look_up, run_by}
use Rattle.include_units.specs.declared.types.FileAnswer.{FileAnswer}
use Rattle.include_units.specs.declared.types.FileAnswer.TheVariants.{Absent, There, Tokens}
use Rattle.include_units.specs.declared.types.FileAnswer.TheVariants as told
use Rattle.include_units.specs.declared.types.Want.{Want}
use Rattle.include_units.specs.declared.types.Want.TheVariants as want
use Rattle.include_units.specs.declared.stop.Stop.{Stop}
use Rattle.include_units.specs.declared.stop.Stop.TheVariants.{Need, NoMemory}
use Rattle.include_units.specs.Rests.{rest_of}
use Rattle.include_units.specs.Files.{Question, Exists, Text, Lines, files, FromFiles}

abbrev pub question : Want → Question
question (want.Exists path) = Exists path
question (want.Text path) = Text path
question (want.Lines path) = Lines path

-- It stops where the run needs what it needs, or is refused memory.
abbrev pub Stops : {A : Type 0} → List (List ℕ × FileAnswer) → FromFiles A → Stop → Type 0
Stops answers asking (Need want) = run_by (look_up files answers) asking ≡ Needs (question want ∷ [])
Stops answers asking NoMemory = Unit {0}

-- It ends where the run ends, with its result.
abbrev pub Comes : {A B : Type 0} → List (List ℕ × FileAnswer) → FromFiles A → (B → A) → Result B Stop → Type 0
Comes answers asking shown (Ok x) = run_by (look_up files answers) asking ≡ Ends (shown x)
Comes answers asking shown (Err stop) = Stops answers asking stop

-- The number of a token has 32 bits.
abbrev pub IsShortAnswer : FileAnswer → Type 0
IsShortAnswer (Tokens tokens) = length tokens ≤ 4290772992
IsShortAnswer Absent = Unit {0}
IsShortAnswer There = Unit {0}
IsShortAnswer (told.Lines places) = Unit {0}

abbrev pub IsShort : List ℕ × FileAnswer → Type 0
IsShort e = IsShortAnswer e.1

abbrev pub AreShort : List (List ℕ × FileAnswer) → Type 0
AreShort answers = All IsShort answers

-- It leads on to what is left, or stops.
abbrev pub Leads : {A B : Type 0} → List (List ℕ × FileAnswer) → FromFiles A → (B → FromFiles A) → Result B Stop → Type 0
Leads answers asking left (Ok x) = rest_of (look_up files answers) asking ≡ rest_of (look_up files answers) (left x)
Leads answers asking left (Err stop) = Stops answers asking stop

-- Where it needs an answer, this is so.
abbrev pub AtNeed : {B : Type 0} → Result B Stop → Type 0 → Type 0
AtNeed (Ok x) P = Unit {0}
AtNeed (Err (Need want)) P = P
AtNeed (Err NoMemory) P = Unit {0}
