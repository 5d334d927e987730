-- What a message changed, by what the files showed before it and the texts that some had.
use Rattle.std.specs.Prelude.{◌≡◌, ℕ, Bool, false, ◌||◌, List, [], ◌∷◌, ◌++◌, Option, None, Some, flat_map, if◌then◌else◌}
use Rattle.std.specs.List.{list_any}
use Rattle.std.specs.Option.{option_map_or}
use Rattle.std.specs.Str.{bytes_eq}
use Rattle.std.specs.FinMap.{get, keys}
use Rattle.text_lines.specs.declared.encoding.Encoding.{Encoding}
use Rattle.io_edges.specs.Store.{Entry}
use Rattle.doc_texts.specs.Texts.{Texts, text_at, paths_of, marked, add_all}
use Rattle.doc_texts.specs.Prior.{Prior, remembered, is_changed}
use Rattle.plain_mean.specs.Confs.{database_path, database_fault}
use Rattle.plain_mean.specs.declared.types.Shown.{Shown}
use Rattle.c_session.specs.Asking.{Asking, Gives}
use Rattle.c_session.specs.Handled.{Reached}
use Rattle.c_session.specs.Loading.{Loading}
use Rattle.c_session.specs.Shown.{has_news, publication, fault_log}
use Rattle.c_session.specs.State.{State, with_texts}

-- The prior texts are those of an earlier moment, of each file at least whose text is another now.
pub record IsPrior (start : Texts) (prior : Prior) (now : Texts) : Type 0 where
  pub held : (path : List ℕ) (text : Option (List ℕ)) → get prior path ≡ Some text → text ≡ text_at start path
  pub rest : (path : List ℕ) → get prior path ≡ None → text_at now path ≡ text_at start path

-- Another step keeps that, and the root.
pub record KeepsPrior (prior : Prior) (t : Texts) (prior' : Prior) (t' : Texts) : Type 0 where
  pub earlier : (start : Texts) → IsPrior start prior t → IsPrior start prior' t'
  pub root : t'.root ≡ t.root

-- Every other file has the text that it had, and the root is the same.
pub record SameBut (path : List ℕ) (t t' : Texts) : Type 0 where
  pub others : (other : List ℕ) → bytes_eq other path ≡ false → text_at t' other ≡ text_at t other
  pub root : t'.root ≡ t.root

-- with the texts of these files remembered too
abbrev pub all_remembered : Prior → Texts → List (List ℕ) → Prior
all_remembered prior t [] = prior
all_remembered prior t (path ∷ paths) = all_remembered (remembered prior t path) t paths

-- the file that a message opened or changed, if there is one
abbrev pub touched_by : Option (List ℕ) → List (List ℕ)
touched_by None = []
touched_by (Some path) = path ∷ []

-- What each file showed before, by path.
abbrev pub ByPath : Type 0
ByPath = List ℕ → List Shown

-- a file is published where it has news, or was opened or changed
abbrev pub is_told : List (List ℕ) → ByPath → ByPath → Prior → Texts → List ℕ → Bool
is_told touched before after prior now path = has_news (before path) (after path) (is_changed prior now path) || list_any (bytes_eq path) touched

abbrev pub news_of : List (List ℕ) → Encoding → ByPath → ByPath → Prior → Texts → List ℕ → List ℕ
news_of touched encoding before after prior now path =
    if is_told touched before after prior now path then publication encoding now (after path) path else []

-- the files that may have news: those that have a text now, and those that had one
abbrev pub may_have_news : Prior → Texts → List (List ℕ)
may_have_news prior now = keys (add_all (marked (keys prior)) (paths_of now))

abbrev pub news : List (List ℕ) → Encoding → ByPath → ByPath → Prior → Texts → List ℕ
news touched encoding before after prior now = flat_map (news_of touched encoding before after prior now) (may_have_news prior now)

-- the database has another text than the one that is kept for it
abbrev pub other_database : Prior → Texts → Bool
other_database prior now = option_map_or (is_changed prior now) (database_path now.root) false

unfoldable pub database_news : Prior → Texts → List ℕ
database_news prior now = if other_database prior now then fault_log (database_fault now) else []

-- a log message on the database, and what is published
abbrev pub tidings : List (List ℕ) → Encoding → ByPath → ByPath → Prior → Texts → List ℕ
tidings touched encoding before after prior now = database_news prior now ++ news touched encoding before after prior now

-- Something asked the store and left texts and logs, and what that changed was written.
pub record HasPublished (asking : Asking Loading) (s s' : State) (bytes : List ℕ) (before after : ByPath) (prior : Prior) (old new : Option (List Entry)) : Type 0 where
  pub logs : List ℕ
  pub reached : Reached asking (Gives (record { texts = s'.texts; logs = logs })) old new
  pub settings : s' ≡ with_texts s'.texts s
  pub last : Prior
  pub keeps : KeepsPrior prior s.texts last s'.texts
  pub wrote : bytes ≡ logs ++ tidings [] s.encoding before after last s'.texts
