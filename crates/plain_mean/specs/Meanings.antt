-- What a unit means (ISO C11 5.1.1.1): the faults of its preprocessing (6.10), and behind them those of its items and of its end (6.5 to 6.9); what
-- its items declare and denote, with a mark of each token that `#` spelled behind it; and the texts that it reads.
use Rattle.std.specs.Prelude.{ℕ, List, [], ◌++◌, map, take}
use Rattle.tok_data.specs.declared.faults.PpFault.{PpFault}
use Rattle.tok_data.specs.declared.faults.ShownFault.{ShownFault}
use Rattle.tok_data.specs.declared.tokens.OutToken.{OutToken}
use Rattle.asking.specs.LookUps.{Given, asked, result_of}
use Rattle.doc_texts.specs.Texts.{Texts}
use Rattle.project_conf.specs.declared.conf.Conf.{Conf}
use Rattle.project_conf.specs.declared.conf.UnitConf.{UnitConf}
use Rattle.project_conf.specs.Entries.{unit_conf}
use Rattle.include_units.specs.Files.{Question, files}
use Rattle.include_units.specs.Units.{unit_tokens}
use Rattle.include_units.specs.declared.types.Entered.{Entered}
use Rattle.include_units.specs.declared.types.UnitTokens.{UnitTokens}
use Rattle.item_readings.specs.TheReader.{the_reader}
use Rattle.scope_tables.specs.declared.entities.Occ.{Occ}
use Rattle.scope_tables.specs.declared.units.UnitMeaning.{UnitMeaning as Meaning}
use Rattle.stmt_checks.specs.Folds.{unit_meaning}
use Rattle.unit_meaning.specs.Sites.{Entry, all_reached, moved}
use Rattle.plain_mean.specs.Given.{given}
use Rattle.plain_mean.specs.Messages.{message}
use Rattle.plain_mean.specs.Spelled.{spelled_marks}
use Rattle.plain_mean.specs.declared.types.UnitMeaning.{UnitMeaning}

-- ---- preprocessing

abbrev pub entry : Entered → Entry
entry e = (e.file, e.by)

-- a fault as it is shown: where it stands, and its message
abbrev pub shown_fault : List Entry → PpFault → ShownFault
shown_fault reached fault = record { tok = moved reached fault.tok; rule = fault.rule; text = message fault.rule fault.text }

abbrev pub shown_faults : List Entry → List PpFault → List ShownFault
shown_faults entered faults = map (shown_fault (all_reached [] entered)) faults

-- ---- items

-- all output tokens: no unit has more of them
abbrev pub item_tokens : List OutToken → List OutToken
item_tokens tokens = take 2000000 tokens

unfoldable pub item_meaning : List OutToken → List Entry → Meaning
item_meaning tokens entered = unit_meaning the_reader (item_tokens tokens) entered

-- ---- both

-- these faults stand in front
abbrev pub behind : List ShownFault → Meaning → Meaning
behind faults m = record m { faults = faults ++ m.faults }

abbrev pub whole : UnitTokens → List Entry → Meaning
whole tokens entered = behind (shown_faults entered tokens.faults) (item_meaning tokens.tokens entered)

-- these occurrences stand behind all others
abbrev pub before : List Occ → Meaning → Meaning
before marks m = record m { occs = m.occs ++ marks }

abbrev pub meant_by : List Occ → UnitTokens → UnitMeaning
meant_by marks tokens = record { meaning = before marks (whole tokens (map entry tokens.entered)); reads = tokens.reads }

-- a unit's tokens, with the marks of those that were spelled
abbrev pub meant_over : Given files → UnitConf → List Question → UnitTokens → UnitMeaning
meant_over given conf asked tokens = meant_by (spelled_marks given conf.defines asked tokens.spelled) tokens

-- what a unit with this configuration means, by the answers that it gets
unfoldable pub meaning_by : Given files → UnitConf → UnitMeaning
meaning_by given conf = meant_over given conf (asked given (unit_tokens conf)) (result_of given (unit_tokens conf))

unfoldable pub meaning : Texts → Conf → List ℕ → UnitMeaning
meaning texts conf unit = meaning_by (given texts) (unit_conf conf unit)
