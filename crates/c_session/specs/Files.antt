-- Which files of a root are loaded, and what loading one does.
use Rattle.std.specs.Prelude.{ℕ, Bool, false, ◌||◌, ◌&&◌, List, [], ◌∷◌, ◌++◌, codes, nat_eq, Option, None, Some, Result, Err, if◌then◌else◌}
use Rattle.std.specs.List.{ends_with, filter}
use Rattle.std.specs.Option.{option_map_or}
use Rattle.std.specs.Str.{bytes_eq}
use Rattle.io_edges.specs.declared.ends.Listed.{Listed}
use Rattle.io_edges.specs.declared.ends.Listed.TheVariants as listed
use Rattle.io_edges.specs.declared.ends.Found.{Found}
use Rattle.io_edges.specs.declared.ends.Found.TheVariants as found
use Rattle.uri_paths.specs.Paths.{is_path, within}
use Rattle.lsp_answers.specs.Replies.{log}
use Rattle.doc_texts.specs.Texts.{Texts, path_set}
use Rattle.doc_texts.specs.Docs.{loaded, is_outside}
use Rattle.doc_texts.specs.declared.error.DocError.{DocError}
use Rattle.doc_texts.specs.declared.error.DocError.TheVariants.{OutsideRoot, TooLong}

-- a text that ends in this one
abbrev pub has_end : List ℕ → List ℕ → Bool
has_end end text = ends_with nat_eq text end

-- a file that a unit may be made of
unfoldable pub is_c_file : List ℕ → Bool
is_c_file path = has_end (codes ".c") path || (has_end (codes ".h") path || (has_end (codes ".inc") path || has_end (codes ".def") path))

-- the compilation database, at the root
abbrev pub is_database : List ℕ → List ℕ → Bool
is_database root path = option_map_or (bytes_eq path) (within root (codes "compile_commands.json")) false

-- a file whose text is loaded
abbrev pub is_loaded : List ℕ → List ℕ → Bool
is_loaded root path = is_c_file path || is_database root path

-- the paths among what a store lists
abbrev pub files_in : List Listed → List (List ℕ)
files_in [] = []
files_in (listed.File path ∷ rest) = path ∷ files_in rest
files_in (listed.NoText ∷ rest) = files_in rest

-- a log message for each of the names among it that aren't UTF-8
abbrev pub unreadable_logs : List Listed → List ℕ
unreadable_logs [] = []
unreadable_logs (listed.File path ∷ rest) = unreadable_logs rest
unreadable_logs (listed.NoText ∷ rest) = log (codes "load: NoText") ++ unreadable_logs rest

-- a listed file that is read
abbrev pub is_wanted : List ℕ → List ℕ → Bool
is_wanted root path = is_path path && is_loaded root path

-- the path with this text, if it is one and its file is read
abbrev pub wanted_path : List ℕ → List ℕ → Option (List ℕ)
wanted_path root text = if is_wanted root text then Some text else None

-- the files that are read, in order of path, each once
abbrev pub to_load : List ℕ → List Listed → List (List ℕ)
to_load root found = path_set (filter (is_wanted root) (files_in found))

-- the texts with what a file has now: one that isn't there has no text, and one outside the root is refused as such whatever its size
abbrev pub with_found : Texts → List ℕ → Found → Result Texts DocError
with_found t path found.Absent = loaded t path None
with_found t path found.TooLarge = if is_outside t path then Err OutsideRoot else Err TooLong
with_found t path (found.Bytes bytes) = loaded t path (Some bytes)
