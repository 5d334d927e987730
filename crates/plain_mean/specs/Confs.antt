-- How the units of a session are read: by the words of the command line, and by the database of compilations at the root.
use Rattle.std.specs.Prelude.{ℕ, nat_lt, List, [], ◌∷◌, ◌++◌, length, codes, Option, None, Some, unwrap_or, option_and_then, Result, Ok, Err, All, IfSome, if◌then◌else◌}
use Rattle.uri_paths.specs.Paths.{within}
use Rattle.doc_texts.specs.Limits.{longest_text}
use Rattle.doc_texts.specs.Texts.{Texts, text_at}
use Rattle.project_conf.specs.Database.{units_of}
use Rattle.project_conf.specs.Defines.{AreUsable}
use Rattle.project_conf.specs.declared.conf.Conf.{Conf}
use Rattle.project_conf.specs.declared.conf.UnitConf.{UnitConf}
use Rattle.project_conf.specs.declared.database.ConfError.{ConfError}
use Rattle.project_conf.specs.declared.options.Options.{Options}

-- ---- folders

-- a folder is taken from the root, or from `/` where there is none
abbrev pub base_of : Option (List ℕ) → List ℕ
base_of root = unwrap_or root (codes "/")

abbrev pub among : Option (List ℕ) → List (List ℕ)
among None = []
among (Some folder) = folder ∷ []

-- one that goes above `/` is skipped
abbrev pub folders_from : List ℕ → List (List ℕ) → List (List ℕ)
folders_from base [] = []
folders_from base (folder ∷ folders) = among (within base folder) ++ folders_from base folders

-- ---- the database

-- where it stands in a root
abbrev pub database_in : List ℕ → Option (List ℕ)
database_in root = within root (codes "compile_commands.json")

-- where it stands, where there is a root
abbrev pub database_path : Option (List ℕ) → Option (List ℕ)
database_path root = option_and_then database_in root

-- A database as it is read: its entries, or why it is faulty. A text that is longer than a client's or a file's may be counts as absent.
unfoldable pub read_as : List ℕ → List ℕ → Option (Result (List UnitConf) ConfError)
read_as root text = if nat_lt longest_text (length text) then None else Some (units_of root text)

abbrev pub read_at : Texts → List ℕ → Option (List ℕ) → Option (Result (List UnitConf) ConfError)
read_at texts root path = option_and_then (λ p. option_and_then (read_as root) (text_at texts p)) path

-- None where there is no root, or no text there
unfoldable pub database_of : Texts → Option (Result (List UnitConf) ConfError)
database_of texts = option_and_then (λ root. read_at texts root (database_in root)) texts.root

-- a faulty one counts as absent
abbrev pub units_read : Option (Result (List UnitConf) ConfError) → Option (List UnitConf)
units_read None = None
units_read (Some (Ok units)) = Some units
units_read (Some (Err e)) = None

abbrev pub fault_read : Option (Result (List UnitConf) ConfError) → Option ConfError
fault_read None = None
fault_read (Some (Ok units)) = None
fault_read (Some (Err e)) = Some e

-- why the database of the texts is faulty, where it is
abbrev pub database_fault : Texts → Option ConfError
database_fault texts = fault_read (database_of texts)

-- ---- both

abbrev pub conf_of : Options → Texts → Conf
conf_of options texts = record {
  root = texts.root;
  includes = folders_from (base_of texts.root) options.includes;
  defines = options.defines;
  database = units_read (database_of texts);
}

-- Units may begin with the definitions of the words and with those of each entry.
pub record IsUsable (conf : Conf) : Type 0 where
  pub words : AreUsable 131072 conf.defines
  pub entries : IfSome conf.database (All (λ u. AreUsable 33554432 u.defines))
