-- A unit that goes on by what it is told: it ends over answers to all that it asks, and else needs the next of these.
use Rattle.std.specs.Prelude.{◌≡◌, ℕ, List, [], ◌∷◌, ◌++◌, map}
use Rattle.project_conf.specs.declared.conf.UnitConf.{UnitConf}
use Rattle.asking.specs.LookUps.{Ends, Needs, look_up, run_by}
use Rattle.include_units.specs.declared.types.FileAnswer.{FileAnswer}
use Rattle.include_units.specs.declared.types.Go.{Go}
use Rattle.include_units.specs.declared.types.Go.TheVariants.{Need, Done}
use Rattle.include_units.specs.Coming.{question}
use Rattle.include_units.specs.Files.{files}
use Rattle.include_units.specs.Units.{unit_tokens}

-- a unit by how it is read, and what it was told of files, in order
pub record Asked : Type 0 where
  pub conf : UnitConf
  pub answers : List (List ℕ × FileAnswer)

abbrev pub begun : UnitConf → Asked
begun conf = record { conf = conf; answers = [] }

abbrev pub with_answer : Asked → List ℕ → FileAnswer → Asked
with_answer unit path answer = record { conf = unit.conf; answers = unit.answers ++ (path, answer) ∷ [] }

-- what a unit comes to over these answers, each of which is looked up by its path
abbrev pub IsGoing : UnitConf → List (List ℕ × FileAnswer) → Go → Type 0
IsGoing conf answers (Done tokens) = run_by (look_up files answers) (unit_tokens conf) ≡ Ends tokens
IsGoing conf answers (Need wants) = run_by (look_up files answers) (unit_tokens conf) ≡ Needs (map question wants)
