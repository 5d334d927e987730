-- The database of compilations, `compile_commands.json` (Clang's "JSON Compilation Database Format Specification"): an array of
-- objects, one a compilation, with `directory`, `file` and either `arguments` or `command`.
use Rattle.std.specs.Prelude.{ℕ, ◌+◌, List, [], ◌∷◌, codes, Option, Some, None, option_map, option_and_then, Result, Ok, Err}
use Rattle.serde_json.specs.Data.{Data, null, boolean, number, string, array, object, Items, no_items, item}
use Rattle.serde_json.specs.Find.{get, as_str, as_array}
use Rattle.serde_json.specs.Read.{read}
use Rattle.uri_paths.specs.Paths.{within}
use Rattle.project_conf.specs.declared.conf.UnitConf.{UnitConf}
use Rattle.project_conf.specs.declared.database.ConfError.{ConfError}
use Rattle.project_conf.specs.declared.database.ConfError.TheVariants.{NotJson, NotArray, Entry}
use Rattle.project_conf.specs.Parting.{words_of}
use Rattle.project_conf.specs.Settings.{folders_said, defines_said}

-- ---- an entry

abbrev pub text_at : List ℕ → Data → Option (List ℕ)
text_at key entry = option_and_then as_str (get key entry)

-- the path that a member means in a folder; one that goes above `/` means none
abbrev pub path_at : List ℕ → List ℕ → Data → Option (List ℕ)
path_at folder key entry = option_and_then (λ text. within folder text) (text_at key entry)

-- an array of texts
abbrev pub texts_in : Items → Option (List (List ℕ))
texts_in no_items = Some []
texts_in (item d ds) = option_and_then (λ text. option_map (λ texts. text ∷ texts) (texts_in ds)) (as_str d)

-- where both are there, `arguments` is read
abbrev pub words_by : Option Data → Option (List ℕ) → Option (List (List ℕ))
words_by None command = option_map words_of command
words_by (Some arguments) command = option_and_then texts_in (as_array arguments)

unfoldable pub words_in : Data → Option (List (List ℕ))
words_in entry = words_by (get (codes "arguments") entry) (text_at (codes "command") entry)

abbrev pub unit_in : List ℕ → List ℕ → List (List ℕ) → UnitConf
unit_in directory file words = record {
  file = file;
  includes = folders_said directory words;
  defines = defines_said words;
}

-- `directory` is taken from the root, `file` and the folders from `directory`; None where the entry is faulty
unfoldable pub unit_of : List ℕ → Data → Option UnitConf
unit_of root entry =
    option_and_then (λ directory.
    option_and_then (λ file.
    option_map (unit_in directory file) (words_in entry))
    (path_at directory (codes "file") entry))
    (path_at root (codes "directory") entry)

-- ---- all entries

abbrev pub in_front : UnitConf → Result (List UnitConf) ConfError → Result (List UnitConf) ConfError
in_front unit (Ok units) = Ok (unit ∷ units)
in_front unit (Err e) = Err e

abbrev pub numbered : ℕ → Option UnitConf → Result (List UnitConf) ConfError → Result (List UnitConf) ConfError
numbered n None more = Err (Entry n)
numbered n (Some unit) more = in_front unit more

-- the entries from number n on, or the number of the first that is faulty
unfoldable pub units_from : List ℕ → ℕ → Items → Result (List UnitConf) ConfError
units_from root n no_items = Ok []
units_from root n (item d ds) = numbered n (unit_of root d) (units_from root (n + 1) ds)

abbrev pub units_in : List ℕ → Data → Result (List UnitConf) ConfError
units_in root null = Err NotArray
units_in root (boolean b) = Err NotArray
units_in root (number n) = Err NotArray
units_in root (string s) = Err NotArray
units_in root (array ds) = units_from root 0 ds
units_in root (object ms) = Err NotArray

abbrev pub units_read : List ℕ → Option Data → Result (List UnitConf) ConfError
units_read root None = Err NotJson
units_read root (Some d) = units_in root d

-- the entries of a database under a root, in order, or why it is faulty
unfoldable pub units_of : List ℕ → List ℕ → Result (List UnitConf) ConfError
units_of root text = units_read root (read text)
