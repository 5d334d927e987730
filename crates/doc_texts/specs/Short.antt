-- Texts that are no longer than any that a session takes in.
use Rattle.std.specs.Prelude.{ℕ, ◌≤◌, List, length, IfSome}
use Rattle.std.specs.FinMap.{get}
use Rattle.doc_texts.specs.Limits.{longest_text}
use Rattle.doc_texts.specs.Texts.{Texts}

abbrev pub IsShort : List ℕ → Type 0
IsShort text = length text ≤ longest_text

-- each text is, on disk and open, also where an open one hides that on disk
abbrev pub AllShort : Texts → Type 0
AllShort t = ((path : List ℕ) → IfSome (get t.disk path) IsShort) × ((path : List ℕ) → IfSome (get t.opened path) (λ document. IsShort document.text))
