-- Which units have to be worked out again where texts became others: those that weren't units before, have another configuration, or asked
-- something of files that has another answer now.
use Rattle.std.specs.Prelude.{◌≡◌, ℕ, Bool, not, ◌||◌, List, [], bytes_eq, map, Option, is_some, unwrap_or}
use Rattle.std.specs.List.{filter, list_any}
use Rattle.asking.specs.LookUps.{asked}
use Rattle.c_tokens.specs.Lexed.{lexed}
use Rattle.doc_texts.specs.Prior.{Prior, text_before}
use Rattle.doc_texts.specs.Texts.{Texts, text_at, same_text}
use Rattle.include_units.specs.Coming.{question}
use Rattle.include_units.specs.Files.{Question, Exists, Text, Lines}
use Rattle.include_units.specs.Units.{unit_tokens}
use Rattle.project_conf.specs.declared.conf.Conf.{Conf}
use Rattle.project_conf.specs.Entries.{unit_conf}
use Rattle.plain_mean.specs.Given.{given}
use Rattle.plain_mean.specs.Same.{same_bool, same_tokens, same_conf}
use Rattle.plain_mean.specs.Shown.{units}
use Rattle.plain_mean.specs.declared.types.Grounds.{Grounds}

-- ---- what a unit asks

-- the questions that a unit asks of files, each once, in the order in which they are first asked
unfoldable pub questions : Texts → Conf → List ℕ → List Question
questions texts conf unit = asked (given texts) (unit_tokens (unit_conf conf unit))

-- how a unit was read, and what it asked
pub record IsGrounds (texts : Texts) (reading : Conf) (unit : List ℕ) (grounds : Grounds) : Type 0 where
  pub conf : grounds.conf ≡ unit_conf reading unit
  pub asked : map question grounds.asked ≡ questions texts reading unit

-- ---- what has another answer

abbrev pub path_of : Question → List ℕ
path_of (Exists path) = path
path_of (Text path) = path
path_of (Lines path) = path

-- the question about a path that had this text, and has that one now, has another answer: places are those of a text, so another text counts as other places
abbrev pub differs : Option (List ℕ) → Option (List ℕ) → Question → Bool
differs before now (Exists path) = not (same_bool (is_some before) (is_some now))
differs before now (Text path) = not (same_tokens (lexed (unwrap_or before [])).tokens (lexed (unwrap_or now [])).tokens)
differs before now (Lines path) = not (same_text before now)

-- by the texts before and now
unfoldable pub has_other : Texts → Texts → Question → Bool
has_other before now q = differs (text_at before (path_of q)) (text_at now (path_of q)) q

-- the same, by the texts that are kept of before
unfoldable pub has_other_by : Prior → Texts → Question → Bool
has_other_by prior now q = differs (text_before prior now (path_of q)) (text_at now (path_of q)) q

-- ---- which units

-- the grounds of a unit don't hold any more
unfoldable pub are_gone : Prior → Texts → Conf → List ℕ → Grounds → Bool
are_gone prior now conf unit grounds =
    not (same_conf grounds.conf (unit_conf conf unit)) || list_any (has_other_by prior now) (map question grounds.asked)

abbrev pub is_renewed : Texts → Conf → Texts → Conf → List ℕ → Bool
is_renewed before conf now conf' unit =
    not (list_any (bytes_eq unit) (units before conf))
    || (not (same_conf (unit_conf conf unit) (unit_conf conf' unit)) || list_any (has_other before now) (questions before conf unit))

-- the units of the texts now that have to be worked out again, in order of path
unfoldable pub renewed : Texts → Conf → Texts → Conf → List (List ℕ)
renewed before conf now conf' = filter (is_renewed before conf now conf') (units now conf')
