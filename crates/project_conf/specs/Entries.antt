-- The entries of a database as the configurations of units.
use Rattle.std.specs.Prelude.{ℕ, Bool, ◌||◌, ◌&&◌, List, [], ◌++◌, bytes_eq, nat_eq, codes, is_some, unwrap_or, Option, Some, None}
use Rattle.std.specs.List.{find, ends_with}
use Rattle.project_conf.specs.declared.conf.Conf.{Conf}
use Rattle.project_conf.specs.declared.conf.UnitConf.{UnitConf}
use Rattle.project_conf.specs.declared.database.ConfError.{ConfError}
use Rattle.project_conf.specs.declared.database.ConfError.TheVariants.{NotJson, NotArray, Entry, NoMemory}

-- the first entry of a file counts
unfoldable pub entry_of : List ℕ → List UnitConf → Option UnitConf
entry_of file units = find (λ unit. bytes_eq unit.file file) units

-- how a file is read by the words, and by its entry where it has one: the definitions of the words come first, and the folders of
-- the entry
abbrev pub with_entry : Conf → List ℕ → Option UnitConf → UnitConf
with_entry conf file None = record { file = file; includes = conf.includes; defines = conf.defines }
with_entry conf file (Some entry) = record { file = file; includes = entry.includes ++ conf.includes; defines = conf.defines ++ entry.defines }

-- how a file is read: without a database as without an entry
abbrev pub unit_conf : Conf → List ℕ → UnitConf
unit_conf conf file = with_entry conf file (entry_of file (unwrap_or conf.database []))

-- a C source
abbrev pub is_source : List ℕ → Bool
is_source path = ends_with nat_eq path (codes ".c")

-- whether a text at a path is a unit: without a database each C source is one, with one each file that has an entry and each open
-- document that is a C source
abbrev pub is_unit : Option (List UnitConf) → Bool → List ℕ → Bool
is_unit None is_open path = is_source path
is_unit (Some units) is_open path = is_some (entry_of path units) || is_open && is_source path

-- what is shown of a faulty database
abbrev pub refusal : ConfError → List ℕ
refusal NotJson = codes "NotJson"
refusal NotArray = codes "NotArray"
refusal (Entry n) = codes "Entry"
refusal NoMemory = codes "NoMemory"
