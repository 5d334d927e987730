-- What the texts of a session say of the files that a unit asks for, and the unit's tokens over them.
use Rattle.std.specs.Prelude.{◌≡◌, ℕ, is_some, unwrap_or, List, [], ◌++◌}
use Rattle.doc_texts.specs.Texts.{Texts, text_at}
use Rattle.c_tokens.specs.Lexed.{lexed}
use Rattle.project_conf.specs.declared.conf.UnitConf.{UnitConf}
use Rattle.asking.specs.Laws.{AreEntriesOf}
use Rattle.asking.specs.LookUps.{Given, result_of}
use Rattle.include_units.specs.declared.types.FileAnswer.{FileAnswer}
use Rattle.include_units.specs.declared.types.UnitTokens.{UnitTokens}
use Rattle.include_units.specs.Files.{Question, Exists, Text, Lines, files}
use Rattle.include_units.specs.Runs.{own_places}
use Rattle.include_units.specs.Units.{unit_tokens}

-- the text at a path; a path without one counts as an empty text
abbrev pub text_in : Texts → List ℕ → List ℕ
text_in texts path = unwrap_or (text_at texts path) []

abbrev pub given : Texts → Given files
given texts (Exists path) = is_some (text_at texts path)
given texts (Text path) = (lexed (text_in texts path)).tokens
given texts (Lines path) = own_places (text_in texts path)

abbrev pub tokens_over : Texts → UnitConf → UnitTokens
tokens_over texts conf = result_of (given texts) (unit_tokens conf)

-- ---- answers that are told

-- between two moments answers to these questions were told, one each, as the texts say
pub record HasTold (texts : Texts) (old now : List (List ℕ × FileAnswer)) (questions : List Question) : Type 0 where
  pub more : List (List ℕ × FileAnswer)
  pub grown : now ≡ old ++ more
  pub told : AreEntriesOf files (given texts) questions more
