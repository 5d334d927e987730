-- The diagnostics that files show, and those that are published after a message.
use Rattle.std.specs.Prelude.{ℕ, Bool, true, false, not, ◌&&◌, ◌||◌, ◌==◌, List, [], ◌∷◌, ◌++◌, codes, flat_map, length, map, unwrap_or, Option, None, Some, if◌then◌else◌}
use Rattle.std.specs.List.{filter, list_any}
use Rattle.std.specs.Option.{option_map_or}
use Rattle.std.specs.Str.{bytes_eq}
use Rattle.text_lines.specs.declared.encoding.Encoding.{Encoding}
use Rattle.doc_texts.specs.Texts.{Texts, text_at, same_text, version_at, paths_of, path_set}
use Rattle.project_conf.specs.Entries.{refusal}
use Rattle.project_conf.specs.declared.conf.Conf.{Conf}
use Rattle.project_conf.specs.declared.database.ConfError.{ConfError}
use Rattle.plain_mean.specs.Confs.{conf_of, database_path, database_fault}
use Rattle.plain_mean.specs.Shown.{faults_of, reads_of, shown_by, is_unit_of}
use Rattle.plain_mean.specs.declared.types.Shown.{Shown}
use Rattle.lsp_answers.specs.Replies.{log}
use Rattle.c_session.specs.Places.{uri_for}
use Rattle.c_session.specs.Units.{cross_faults, known}
use Rattle.c_session.specs.Diagnostics.{diagnostic, publish}
use Rattle.c_session.specs.State.{State}

-- how the units are read
abbrev pub conf_in : State → Conf
conf_in s = conf_of s.options s.texts

-- whether the text at a path is a unit
abbrev pub is_unit_in : State → List ℕ → Bool
is_unit_in s path = is_unit_of s.texts (conf_in s) path

-- what a file shows: the faults of all units that fall on it, and the warnings across units
unfoldable pub shown : Texts → Conf → List ℕ → List Shown
shown texts conf path = shown_by texts (faults_of texts conf ++ cross_faults (known texts conf)) (reads_of texts conf) path

abbrev pub shows : State → List ℕ → List Shown
shows s path = shown s.texts (conf_in s) path

-- two faults are the same: place, rule and message
abbrev pub same_fault : Shown → Shown → Bool
same_fault a b = a.start == b.start && (a.end == b.end && (a.rule == b.rule && bytes_eq a.text b.text))

abbrev pub same_list : List Shown → List Shown → Bool
same_list [] [] = true
same_list [] (b ∷ others) = false
same_list (a ∷ rest) [] = false
same_list (a ∷ rest) (b ∷ others) = same_fault a b && same_list rest others

abbrev pub is_nonempty : List Shown → Bool
is_nonempty faults = not (length faults == 0)

-- A file has news where what it shows differs, or where its text differs and it shows something.
abbrev pub has_news : List Shown → List Shown → Bool → Bool
has_news before after text_differs = not (same_list before after) || (text_differs && is_nonempty after)

-- its diagnostics are published then, and where the message opened or changed it
abbrev pub is_published : List (List ℕ) → State → State → List ℕ → Bool
is_published touched s s' path =
    has_news (shows s path) (shows s' path) (not (same_text (text_at s.texts path) (text_at s'.texts path))) || list_any (bytes_eq path) touched

-- the files whose diagnostics are published, in order of path
abbrev pub published_paths : List (List ℕ) → State → State → List (List ℕ)
published_paths touched s s' = filter (is_published touched s s') (path_set (paths_of s.texts ++ paths_of s'.texts))

-- the diagnostics of a file that shows these faults, behind their header
unfoldable pub publication : Encoding → Texts → List Shown → List ℕ → List ℕ
publication encoding t faults path = publish (uri_for t path) (version_at t path) (map (diagnostic (unwrap_or (text_at t path) []) encoding) faults)

-- what is published after a message
abbrev pub publications : List (List ℕ) → State → State → List ℕ
publications touched s s' = flat_map (λ path. publication s'.encoding s'.texts (shows s' path) path) (published_paths touched s s')

-- ---- the database

-- a log message that says why a database is faulty
abbrev pub fault_log : Option ConfError → List ℕ
fault_log None = []
fault_log (Some e) = log (codes "compile_commands: " ++ refusal e)

-- the database has another text than before, as the message left the root
abbrev pub database_differs : State → State → Bool
database_differs s s' = option_map_or (λ path. not (same_text (text_at s.texts path) (text_at s'.texts path))) (database_path s'.texts.root) false

-- what is logged where a message left another text of the database, and that is faulty
unfoldable pub database_logs : State → State → List ℕ
database_logs s s' = if database_differs s s' then fault_log (database_fault s'.texts) else []
