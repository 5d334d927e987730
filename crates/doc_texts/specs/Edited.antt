-- Texts in which a name takes the place of ranges of bytes (LSP 3.17, WorkspaceEdit: the ranges of one text don't overlap, and all speak of it as it was).
use Rattle.std.specs.Prelude.{ℕ, ◌≢◌, ◌<◌, ◌≤◌, List, [], ◌∷◌, length, Option, Some, None, IfSome}
use Rattle.std.specs.FinMap.{get}
use Rattle.std.specs.List.{replace_range, AllByRecursion}
use Rattle.std.specs.Str.{IsCharBoundary}
use Rattle.doc_texts.specs.declared.ranges.ByteRange.{ByteRange}
use Rattle.doc_texts.specs.declared.ranges.TextEdits.{TextEdits}
use Rattle.doc_texts.specs.Limits.{longest_text}
use Rattle.doc_texts.specs.Texts.{Texts, OpenText, text_at, with_disk, with_open}

-- ---- one text

-- the text with the name in place of each range: the last range goes first, so that those before it stand where they stood
unfoldable pub renamed : List ℕ → List ByteRange → List ℕ → List ℕ
renamed name [] text = text
renamed name (r ∷ rs) text = replace_range (renamed name rs text) r.start r.end name

-- the range isn't empty, begins no earlier than at a place, and cuts no code point
pub record IsNext (text : List ℕ) (at : ℕ) (r : ByteRange) : Type 0 where
  pub behind : at ≤ r.start
  pub something : r.start < r.end
  pub begins : IsCharBoundary text r.start
  pub ends : IsCharBoundary text r.end

-- from a place on, the ranges stand in the text in order and apart
abbrev pub Stand : List ℕ → ℕ → List ByteRange → Type 0
Stand text at [] = Unit {0}
Stand text at (r ∷ rs) = IsNext text at r × Stand text r.end rs

-- ---- all texts

abbrev pub in_place : Texts → List ℕ → List ℕ → Option OpenText → Texts
in_place t path text None = with_disk t path text
in_place t path text (Some d) = with_open t path (record { uri = d.uri; version = d.version; text = text })

-- the texts with another one in place of that which stands at a path: of the open document, else on disk
unfoldable pub with_text_at : Texts → List ℕ → List ℕ → Texts
with_text_at t path text = in_place t path text (get t.opened path)

-- the texts with these edits made in a text; where there is none nothing is made
abbrev pub with_edits : Texts → TextEdits → List ℕ → Option (List ℕ) → Texts
with_edits t e name None = t
with_edits t e name (Some text) = with_text_at t e.path (renamed name e.ranges.items text)

-- all edits are made in the texts as they stand in `t`
unfoldable pub all_made : Texts → Texts → List TextEdits → List ℕ → Texts
all_made t made [] name = made
all_made t made (e ∷ es) name = all_made t (with_edits made e name (text_at t e.path)) es name

unfoldable pub edited : Texts → List TextEdits → List ℕ → Texts
edited t edits name = all_made t t edits name

-- ---- what may be asked for

-- the text that stands at the path, if there is one, is no longer than any text that is taken in, and the ranges stand in it
abbrev pub CanBeMade : Texts → TextEdits → Type 0
CanBeMade t e = IfSome (text_at t e.path) (λ text. (length text ≤ longest_text) × Stand text 0 e.ranges.items)

abbrev pub CanAllBeMade : Texts → List TextEdits → Type 0
CanAllBeMade t edits = AllByRecursion (CanBeMade t) edits

-- each path has its edits in one place
abbrev pub AreApart : List TextEdits → Type 0
AreApart [] = Unit {0}
AreApart (e ∷ es) = AllByRecursion (λ f. e.path ≢ f.path) es × AreApart es
