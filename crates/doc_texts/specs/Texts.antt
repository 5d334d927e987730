-- The texts of a session: those of files on disk, and those that the client has open (LSP 3.17, "Text Document Synchronization").
use Rattle.std.specs.Prelude.{ℕ, ◌+◌, ℤ, Bool, true, false, List, [], ◌∷◌, ◌++◌, length, sum_by, bytes_eq, Option, Some, None, option_map, refl}
use Rattle.std.specs.Cmp.Lexicographic.{slice_cmp}
use Rattle.std.specs.Coded.{Coded, code_by, coded_ℕ, coded_ℤ, coded_list, coded_option, coded×}
use Rattle.std.specs.FinMap.{FinMap, get, insert, remove, keys, values, empty, code}
use Rattle.std.specs.Ordering.{nat_cmp}

-- a finite map from texts, which are paths here
abbrev pub TextMap : Type 0 → Type 0
TextMap X = FinMap (slice_cmp nat_cmp) X

-- a finite set of paths
abbrev pub PathSet : Type 0
PathSet = TextMap (Unit {0})

-- a document that the client has open: the URI and the text that it gave, and the text's version
pub record OpenText : Type 0 where
  pub uri : List ℕ
  pub version : ℤ
  pub text : List ℕ

pub record Texts : Type 0 where
  -- the path of the root, or none
  pub root : Option (List ℕ)
  -- the texts of files, by path
  pub disk : TextMap (List ℕ)
  -- the open documents, by path
  pub opened : TextMap OpenText

-- ---- what stands

-- the text of a file: an open text hides that on disk
abbrev pub shown : Option OpenText → Option (List ℕ) → Option (List ℕ)
shown None on_disk = on_disk
shown (Some document) on_disk = Some document.text

unfoldable pub text_at : Texts → List ℕ → Option (List ℕ)
text_at t path = shown (get t.opened path) (get t.disk path)

-- two paths have the same text, or neither has one
abbrev pub same_text : Option (List ℕ) → Option (List ℕ) → Bool
same_text None None = true
same_text None (Some b) = false
same_text (Some a) None = false
same_text (Some a) (Some b) = bytes_eq a b

-- the version and the URI of an open document
unfoldable pub version_at : Texts → List ℕ → Option ℤ
version_at t path = option_map (λ document. document.version) (get t.opened path)

unfoldable pub uri_at : Texts → List ℕ → Option (List ℕ)
uri_at t path = option_map (λ document. document.uri) (get t.opened path)

-- the set with these paths too
abbrev pub add_all : PathSet → List (List ℕ) → PathSet
add_all set [] = set
add_all set (path ∷ paths) = add_all (insert set path tt) paths

-- the set of these paths
abbrev pub marked : List (List ℕ) → PathSet
marked paths = add_all empty paths

-- these paths in byte order, each once
abbrev pub path_set : List (List ℕ) → List (List ℕ)
path_set paths = keys (marked paths)

-- the paths that have a text, on disk or open
unfoldable pub paths_of : Texts → List (List ℕ)
paths_of t = path_set (keys t.disk ++ keys t.opened)

unfoldable pub file_count : Texts → ℕ
file_count t = length (paths_of t)

-- the bytes of all texts, on disk and open: a text on disk counts also where an open one hides it
unfoldable pub byte_count : Texts → ℕ
byte_count t = sum_by length (values t.disk) + sum_by (λ document. length document.text) (values t.opened)

-- ---- what changes

-- no texts, under a root or none
abbrev pub texts_under : Option (List ℕ) → Texts
texts_under root = record { root = root; disk = empty; opened = empty }

-- the texts with another text on disk at a path, and with none there
abbrev pub with_disk : Texts → List ℕ → List ℕ → Texts
with_disk t path text = record { root = t.root; disk = insert t.disk path text; opened = t.opened }

abbrev pub without_disk : Texts → List ℕ → Texts
without_disk t path = record { root = t.root; disk = remove t.disk path; opened = t.opened }

-- the texts with another open document at a path, and with none there
abbrev pub with_open : Texts → List ℕ → OpenText → Texts
with_open t path document = record { root = t.root; disk = t.disk; opened = insert t.opened path document }

abbrev pub without_open : Texts → List ℕ → Texts
without_open t path = record { root = t.root; disk = t.disk; opened = remove t.opened path }

-- ---- how they are stored as a value

abbrev pub document_code : Coded OpenText
document_code =
    code_by (List ℕ × (ℤ × List ℕ)) (coded× (coded_list coded_ℕ) (coded× coded_ℤ (coded_list coded_ℕ))) (λ d. (d.uri, (d.version, d.text))) (λ p. record { uri = p.0; version = p.1.0; text = p.1.1 }) (λ _. refl)

abbrev pub texts_code : Coded Texts
texts_code =
    code_by (Option (List ℕ) × (TextMap (List ℕ) × TextMap OpenText)) (coded× (coded_option (coded_list coded_ℕ)) (coded× (code (coded_list coded_ℕ) (coded_list coded_ℕ)) (code (coded_list coded_ℕ) document_code))) (λ t. (t.root, (t.disk, t.opened))) (λ p. record { root = p.0; disk = p.1.0; opened = p.1.1 }) (λ _. refl)
