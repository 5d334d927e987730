-- What a unit asks of the files: whether a text is held at a path, its tokens, and the places of these.
use Rattle.std.specs.Prelude.{ℕ, Bool, true, false, List, Option, Some, None, if◌then◌else◌, bytes_eq}
use Rattle.tok_data.specs.declared.tokens.PpToken.{PpToken}
use Rattle.c_tokens.specs.declared.types.Places.{Places}
use Rattle.asking.specs.Asking.{Kind, Asking}
use Rattle.include_units.specs.declared.types.FileAnswer.{FileAnswer}
use Rattle.include_units.specs.declared.types.FileAnswer.TheVariants.{Absent, There, Tokens}
use Rattle.include_units.specs.declared.types.FileAnswer.TheVariants as told

-- a path as its bytes
pub data Question : Type 0 where
  Exists : List ℕ → Question
  Text : List ℕ → Question
  Lines : List ℕ → Question

abbrev pub Answer : Question → Type 0
Answer (Exists path) = Bool
Answer (Text path) = List PpToken
Answer (Lines path) = Places

abbrev pub held_by : FileAnswer → Option Bool
held_by Absent = Some false
held_by There = Some true
held_by _ = None

abbrev pub tokens_by : FileAnswer → Option (List PpToken)
tokens_by (Tokens tokens) = Some tokens
tokens_by _ = None

abbrev pub places_by : FileAnswer → Option Places
places_by (told.Lines places) = Some places
places_by _ = None

-- what an answer about a path says of a question
abbrev pub reads : (q : Question) → List ℕ × FileAnswer → Option (Answer q)
reads (Exists path) e = if bytes_eq path e.0 then held_by e.1 else None
reads (Text path) e = if bytes_eq path e.0 then tokens_by e.1 else None
reads (Lines path) e = if bytes_eq path e.0 then places_by e.1 else None

abbrev pub same : Question → Question → Bool
same (Exists p) (Exists q) = bytes_eq p q
same (Text p) (Text q) = bytes_eq p q
same (Lines p) (Lines q) = bytes_eq p q
same _ _ = false

abbrev pub files : Kind
files = record { Question = Question; Answer = Answer; Entry = List ℕ × FileAnswer; reads = reads; same = same }

abbrev pub FromFiles : Type 0 → Type 0
FromFiles A = Asking files A
