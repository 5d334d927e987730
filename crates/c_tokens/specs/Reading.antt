-- How the code reads a text: from a place where a unit begins, one logical character after another.
use Rattle.std.specs.Prelude.{◌≡◌, ℕ, ◌+◌, ◌-◌, ◌<◌, ◌≤◌, List, [], ◌∷◌, take, drop, length, Some, false, slice_index, IsUtf8, IsCharBoundary, ⊤}
use Rattle.c_tokens.specs.declared.logical.Unit.{Unit}
use Rattle.c_tokens.specs.declared.logical.Unit.TheVariants.{Removed, Trigraph, Plain}
use Rattle.c_tokens.specs.declared.logical.Read.{Read}
use Rattle.c_tokens.specs.declared.pieces.Next.{Next}
use Rattle.c_tokens.specs.declared.pieces.Opening.{Opening}
use Rattle.c_tokens.specs.declared.pieces.Front.{Front as FrontRead}
use Rattle.c_tokens.specs.Cut.{cut}
use Rattle.c_tokens.specs.Logical.{Source, Character, first_unit, continues, first_source, characters, start_of, end_of, codes_of}
use Rattle.c_tokens.specs.Pieces.{Front, literal_prefix}

-- the units from a place on
abbrev pub units : List ℕ → ℕ → List Source
units text at = cut first_source (λ s. s.width) 0 (drop at text)

-- the logical characters from a place on
unfoldable pub rest : List ℕ → ℕ → List Character
rest text at = characters at at (units text at)

-- the codes from a place on
abbrev pub ahead : List ℕ → ℕ → List ℕ
ahead text at = codes_of (rest text at)

-- a place between two characters of UTF-8, as soon as another one is
abbrev pub KeepsBoundary : List ℕ → ℕ → ℕ → Type 0
KeepsBoundary text at here = IsUtf8 text → IsCharBoundary text at → IsCharBoundary text here

abbrev pub read_spelling : Unit → List ℕ → ℕ → ℕ → List ℕ
read_spelling (Removed width) text own end = []
read_spelling (Trigraph c) text own end = c ∷ []
read_spelling (Plain width) text own end = take (end - own) (drop own text)

-- what was read is a character: one of the text, or an ASCII one that a trigraph sequence stands for
abbrev pub IsCharacter : Unit → ℕ → Type 0
IsCharacter (Removed width) code = ⊥
IsCharacter (Trigraph c) code = (code ≡ c) × (c < 128)
IsCharacter (Plain width) code = ⊤

abbrev pub read_character : List ℕ → ℕ → Read → Character
read_character text at r = record { spelling = read_spelling r.unit text r.own r.end; from = at; own = r.own; to = r.end }

-- r is the first logical character from a place on
pub record IsNext (text : List ℕ) (at : ℕ) (r : Read) : Type 0 where
  pub first : rest text at ≡ read_character text at r ∷ rest text r.end
  pub code : r.code ≡ slice_index (read_spelling r.unit text r.own r.end) 0
  pub character : IsCharacter r.unit r.code
  pub begins : at ≤ r.own
  pub goes_on : r.own < r.end
  pub within : r.end ≤ length text
  pub own_boundary : KeepsBoundary text at r.own
  pub boundary : KeepsBoundary text at r.end

-- the byte at a place is a unit by itself
pub record IsAlone (text : List ℕ) (at : ℕ) : Type 0 where
  pub within : at + 1 < length text
  pub unit : first_unit (drop at text) ≡ Plain 1
  pub ends : continues (slice_index text (at + 1)) ≡ false

-- `count` logical characters from a place on end at another one
pub record IsAfter (text : List ℕ) (at count here : ℕ) : Type 0 where
  pub left : rest text here ≡ drop count (rest text at)
  pub ends : here ≡ end_of at (take count (rest text at))
  pub enough : count ≤ length (rest text at)
  pub begins : at + count ≤ here
  pub starts : start_of (take count (rest text at)) ≤ here
  pub within : here ≤ length text
  pub boundary : KeepsBoundary text at here

-- the code at a place, and what is ahead behind it
pub record IsLook (text : List ℕ) (at : ℕ) (next : Next) : Type 0 where
  pub code : next.code ≡ slice_index (ahead text at) 0
  pub left : ahead text next.end ≡ drop 1 (ahead text at)
  pub one : 0 < length (ahead text at) → IsAfter text at 1 next.end
  pub within : next.end ≤ length text

-- the quote that opens a literal
pub record IsOpening (text : List ℕ) (at : ℕ) (opening : Opening) : Type 0 where
  pub prefix : literal_prefix (ahead text at) ≡ Some opening.prefix
  pub quote : opening.quote ≡ slice_index (ahead text at) opening.prefix
  pub after : IsAfter text at (opening.prefix + 1) opening.end

-- the piece that is wanted, as it was read
pub record IsFront (text : List ℕ) (at : ℕ) (wanted : Front) (front : FrontRead) : Type 0 where
  pub class : front.class ≡ wanted.class
  pub size : front.count ≡ wanted.size
  pub after : IsAfter text at front.count front.end
