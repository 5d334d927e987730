-- The words of a command. It is parted at spaces. `'` quotes up to the next `'`; `"` quotes up to the next `"`, with a backslash
-- before `"` or a backslash; elsewhere a backslash takes the next character.
use Rattle.std.specs.Prelude.{ℕ, ◌==◌, ◌||◌, List, [], ◌∷◌, ◌++◌, Option, Some, None, unwrap_or, if◌then◌else◌}
use Rattle.std.specs.Char.{encode_utf8}
use Rattle.std.specs.Option.{option_map_or}
use Rattle.std.specs.Str.{chars}
use Rattle.project_conf.specs.declared.parting.Mode.{Mode}
use Rattle.project_conf.specs.declared.parting.Mode.TheVariants.{Plain, Escaped, Single, Double, DoubleEscaped}
use Rattle.project_conf.specs.declared.parting.Act.{Act}
use Rattle.project_conf.specs.declared.parting.Act.TheVariants.{Parts, Turns, Keeps, KeepsBoth}

abbrev pub space : ℕ
space = 32

abbrev pub double_quote : ℕ
double_quote = 34

abbrev pub single_quote : ℕ
single_quote = 39

abbrev pub backslash : ℕ
backslash = 92

-- what a character does, by where it stands
unfoldable pub step : Mode → ℕ → Act
step Plain c =
    if c == space then Parts
    else (if c == single_quote then Turns Single
    else (if c == double_quote then Turns Double
    else (if c == backslash then Turns Escaped
    else Keeps Plain)))
step Escaped c = Keeps Plain
step Single c = if c == single_quote then Turns Plain else Keeps Single
step Double c =
    if c == double_quote then Turns Plain
    else (if c == backslash then Turns DoubleEscaped
    else Keeps Double)
step DoubleEscaped c = if c == double_quote || c == backslash then Keeps Double else KeepsBoth Double

-- what a command says from a place on: the rest of the word in which the place is, where it is in one, and the words behind it
pub record Parted : Type 0 where
  pub word : Option (List ℕ)
  pub behind : List (List ℕ)

abbrev pub all_words : Parted → List (List ℕ)
all_words p = option_map_or (λ word. word ∷ p.behind) p.word p.behind

abbrev pub parts : Parted → Parted
parts p = record { word = None; behind = all_words p }

-- some text of a word, in front
abbrev pub in_word : List ℕ → Parted → Parted
in_word text p = record { word = Some (text ++ unwrap_or p.word []); behind = p.behind }

-- a quote that isn't closed reaches the end, and a backslash at the end stands for itself
abbrev pub at_end : Mode → Parted
at_end Plain = record { word = None; behind = [] }
at_end Escaped = record { word = Some (backslash ∷ []); behind = [] }
at_end Single = record { word = None; behind = [] }
at_end Double = record { word = None; behind = [] }
at_end DoubleEscaped = record { word = Some (backslash ∷ []); behind = [] }

abbrev pub by_act : Act → ℕ → (Mode → Parted) → Parted
by_act Parts c from = parts (from Plain)
by_act (Turns next) c from = in_word [] (from next)
by_act (Keeps next) c from = in_word (encode_utf8 c) (from next)
by_act (KeepsBoth next) c from = in_word (backslash ∷ encode_utf8 c) (from next)

unfoldable pub parted : Mode → List ℕ → Parted
parted mode [] = at_end mode
parted mode (c ∷ cs) = by_act (step mode c) c (λ next. parted next cs)

-- the words of a command, which `''` and `""` are too
abbrev pub words_of : List ℕ → List (List ℕ)
words_of command = all_words (parted Plain (chars command))

-- the words where some text stands in front, which begins one
abbrev pub all_behind : List ℕ → Parted → List (List ℕ)
all_behind text p = (text ++ unwrap_or p.word []) ∷ p.behind
