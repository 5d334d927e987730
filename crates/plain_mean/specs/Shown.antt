-- What each file shows: the faults of all units that fall on it, each once, by place, rule and message.
use Rattle.std.specs.Prelude.{ℕ, ◌==◌, Bool, List, [], ◌∷◌, ◌++◌, take, map, flat_map, bytes_eq, Option, Some, None, is_some, unwrap_or, if◌then◌else◌}
use Rattle.std.specs.Cmp.Lexicographic.{slice_cmp}
use Rattle.std.specs.List.{filter, list_any, slice_get}
use Rattle.std.specs.declared.cmp.Ordering.{Ordering}
use Rattle.std.specs.Ordering.{nat_cmp, on, then_cmp}
use Rattle.std.specs.BTreeMap.{insert_entry}
use Rattle.c_tokens.specs.declared.types.LexFault.{LexFault}
use Rattle.c_tokens.specs.Lexed.{lexed}
use Rattle.tok_data.specs.declared.faults.ShownFault.{ShownFault}
use Rattle.doc_texts.specs.Texts.{Texts, text_at, version_at, paths_of}
use Rattle.project_conf.specs.Entries.{is_unit}
use Rattle.project_conf.specs.declared.conf.Conf.{Conf}
use Rattle.plain_mean.specs.Meanings.{meaning}
use Rattle.plain_mean.specs.Messages.{message}
use Rattle.plain_mean.specs.declared.types.Shown.{Shown}

-- ---- units

-- a document is open at a path
abbrev pub is_open : Texts → List ℕ → Bool
is_open texts path = is_some (version_at texts path)

-- a text at a path is a unit
abbrev pub is_unit_of : Texts → Conf → List ℕ → Bool
is_unit_of texts conf path = is_unit conf.database (is_open texts path) path

-- the units of the texts, in order of path: own limit, so many are read
abbrev pub most_units : ℕ
most_units = 1024

unfoldable pub units : Texts → Conf → List (List ℕ)
units texts conf = take most_units (filter (is_unit_of texts conf) (paths_of texts))

-- ---- order

-- by place, rule and message
abbrev pub shown_cmp : Shown → Shown → Ordering
shown_cmp = then_cmp (on (λ s. s.start) nat_cmp) (then_cmp (on (λ s. s.end) nat_cmp) (then_cmp (on (λ s. s.rule) nat_cmp) (on (λ s. s.text) (slice_cmp nat_cmp))))

abbrev pub with_all : List (Shown × Unit {0}) → List Shown → List (Shown × Unit {0})
with_all entries [] = entries
with_all entries (s ∷ rest) = with_all (insert_entry shown_cmp entries s tt) rest

-- each once, in order
abbrev pub in_order : List Shown → List Shown
in_order all = map (λ e. e.0) (with_all [] all)

-- ---- one file

-- a number that no token has stands for the empty range at the front
abbrev pub place_of : List (ℕ × ℕ) → ℕ → ℕ × ℕ
place_of places at = unwrap_or (slice_get places at) (0, 0)

abbrev pub placed : List (ℕ × ℕ) → ShownFault → Shown
placed places fault = record {
  start = (place_of places fault.tok.at).0;
  end = (place_of places fault.tok.at).1;
  rule = fault.rule;
  text = fault.text;
}

abbrev pub is_open_comment : LexFault → Bool
is_open_comment fault = fault.rule == 101

abbrev pub of_lexing : LexFault → Shown
of_lexing fault = record { start = fault.start; end = fault.end; rule = fault.rule; text = message fault.rule [] }

-- the open comment of a text is shown where some unit reads the text
abbrev pub open_comments : Bool → List LexFault → List Shown
open_comments read faults = if read then map of_lexing (filter is_open_comment faults) else []

abbrev pub falls_on : List ℕ → ShownFault → Bool
falls_on path fault = bytes_eq fault.tok.file path

-- what a text shows, by the faults that fall on it and whether a unit reads it
abbrev pub of_text : List ℕ → List ShownFault → Bool → List Shown
of_text text faults read = in_order (map (placed (lexed text).places) faults ++ open_comments read (lexed text).faults)

abbrev pub of_file : Option (List ℕ) → List ShownFault → Bool → List Shown
of_file None faults read = []
of_file (Some text) faults read = of_text text faults read

-- ---- all units

-- what a file shows, by all faults and by the paths that are read; a file without a text shows nothing
unfoldable pub shown_by : Texts → List ShownFault → List (List ℕ) → List ℕ → List Shown
shown_by texts faults reads path = of_file (text_at texts path) (filter (falls_on path) faults) (list_any (bytes_eq path) reads)

abbrev pub faults_of : Texts → Conf → List ShownFault
faults_of texts conf = flat_map (λ unit. (meaning texts conf unit).meaning.faults) (units texts conf)

abbrev pub reads_of : Texts → Conf → List (List ℕ)
reads_of texts conf = flat_map (λ unit. (meaning texts conf unit).reads) (units texts conf)
