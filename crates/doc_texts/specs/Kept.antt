-- What the fields of `Docs` mean, and what they always keep.
use Rattle.std.specs.Prelude.{◌≡◌, ℕ, ◌+◌, List, length, option_map, unwrap_or, is_some, if◌then◌else◌}
use Rattle.std.specs.FinMap.{get, from_entries}
use Rattle.doc_texts.specs.declared.docs.Docs.TheInside.{Inside}
use Rattle.doc_texts.specs.Texts.{Texts, text_at, file_count, byte_count}

abbrev pub texts_in : Inside → Texts
texts_in a = record { root = a.root; disk = from_entries a.disk.entries; opened = from_entries a.opened.entries }

-- there are so many files and so many bytes of texts
pub record Counted (t : Texts) (files bytes : ℕ) : Type 0 where
  pub counted : files ≡ file_count t
  pub summed : bytes ≡ byte_count t

abbrev pub IsCounted : Inside → Type 0
IsCounted a = Counted (texts_in a) a.files a.bytes

-- the files there are where this path has a text
abbrev pub files_with : Texts → List ℕ → ℕ
files_with t path = if is_some (text_at t path) then file_count t else file_count t + 1

-- the bytes of the text on disk at a path, and of the document that is open there, or 0
abbrev pub disk_size : Texts → List ℕ → ℕ
disk_size t path = unwrap_or (option_map length (get t.disk path)) 0

abbrev pub open_size : Texts → List ℕ → ℕ
open_size t path = unwrap_or (option_map (λ document. length document.text) (get t.opened path)) 0
