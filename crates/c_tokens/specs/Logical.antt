-- Translation phases 1 and 2 (ISO C11 5.1.1.2): a text as its logical characters.
use Rattle.std.specs.Prelude.{ℕ, ◌+◌, ◌<◌, Bool, true, false, ◌&&◌, ◌||◌, List, [], ◌∷◌, take, drop, Option, Some, None, if◌then◌else◌, nat_lt, nat_le, ◌==◌, slice_index, ⊤, ◌++◌, length}
use Rattle.std.specs.List.{prefix_len}
use Rattle.c_tokens.specs.declared.logical.Unit.{Unit}
use Rattle.c_tokens.specs.declared.logical.Unit.TheVariants.{Removed, Trigraph, Plain}
use Rattle.c_tokens.specs.Cut.{cut}

-- the nine trigraph sequences (5.2.1.1), by their third character
unfoldable pub trigraph : ℕ → Option ℕ
trigraph third =
    if third == 61 then Some 35  -- ??=  #
    else (if third == 40 then Some 91  -- ??(  [
    else (if third == 47 then Some 92  -- ??/  backslash
    else (if third == 41 then Some 93  -- ??)  ]
    else (if third == 39 then Some 94  -- ??'  ^
    else (if third == 60 then Some 123  -- ??<  {
    else (if third == 33 then Some 124  -- ??!  |
    else (if third == 62 then Some 125  -- ??>  }
    else (if third == 45 then Some 126  -- ??-  ~
    else None))))))))

-- a line end is LF, CR or CR LF
abbrev pub is_line_end : ℕ → Bool
is_line_end c = c == 10 || c == 13

-- the bytes of the line end that stands k bytes behind the front (0: none stands there)
unfoldable pub line_end_width : List ℕ → ℕ → ℕ
line_end_width bytes k =
    if slice_index bytes k == 10 then 1
    else (if slice_index bytes k == 13 then (if slice_index bytes (k + 1) == 10 then 2 else 1)
    else 0)

-- two question marks stand at the front
unfoldable pub begins_trigraph : List ℕ → Bool
begins_trigraph bytes = slice_index bytes 0 == 63 && slice_index bytes 1 == 63

-- the bytes of the backslash at the front, as it stands or as a trigraph sequence (0: none)
unfoldable pub backslash_width : List ℕ → ℕ
backslash_width bytes =
    if slice_index bytes 0 == 92 then 1
    else (if begins_trigraph bytes && slice_index bytes 2 == 47 then 3
    else 0)

-- a byte that continues a character in UTF-8
abbrev pub continues : ℕ → Bool
continues b = nat_le 128 b && nat_lt b 192

-- a character with the bytes that continue it
abbrev pub plain : List ℕ → Unit
plain bytes = Plain (1 + prefix_len continues (drop 1 bytes))

abbrev pub replaced : Option ℕ → List ℕ → Unit
replaced (Some c) bytes = Trigraph c
replaced None bytes = plain bytes

-- what stands at the front of a text: a backslash with a line end, which are removed, a trigraph sequence, or a character
unfoldable pub first_unit : List ℕ → Unit
first_unit bytes =
    if nat_lt 0 (backslash_width bytes) && nat_lt 0 (line_end_width bytes (backslash_width bytes))
    then Removed (backslash_width bytes + line_end_width bytes (backslash_width bytes))
    else (if begins_trigraph bytes then replaced (trigraph (slice_index bytes 2)) bytes
    else plain bytes)

-- a unit of the source: its bytes in the text, and the character that it stands for, unless it is removed
pub record Source : Type 0 where
  pub width : ℕ
  pub removed : Bool
  pub spelling : List ℕ

-- the character that a trigraph sequence stands for is ASCII
abbrev pub IsReplacement : Unit → Type 0
IsReplacement (Trigraph c) = c < 128
IsReplacement _ = ⊤

abbrev pub source_of : Unit → List ℕ → Source
source_of (Removed width) bytes = record { width = width; removed = true; spelling = [] }
source_of (Trigraph c) bytes = record { width = 3; removed = false; spelling = c ∷ [] }
source_of (Plain width) bytes = record { width = width; removed = false; spelling = take width bytes }

abbrev pub first_source : List ℕ → Source
first_source bytes = source_of (first_unit bytes) bytes

-- a logical character: its spelling in UTF-8, and its range in the text. The range begins with what was removed
-- before the character; `own` is where the character itself begins
pub record Character : Type 0 where
  pub spelling : List ℕ
  pub from : ℕ
  pub own : ℕ
  pub to : ℕ

-- the characters of the units from offset `at` on, where what was removed before them begins at `from`
abbrev pub characters : ℕ → ℕ → List Source → List Character
characters from at [] = []
characters from at (s ∷ rest) =
    if s.removed then characters from (at + s.width) rest
    else (record { spelling = s.spelling; from = from; own = at; to = at + s.width } ∷ characters (at + s.width) (at + s.width) rest)

-- the first byte of a character, which tells all characters of the basic source set apart
abbrev pub code : Character → ℕ
code c = slice_index c.spelling 0

abbrev pub codes_of : List Character → List ℕ
codes_of [] = []
codes_of (c ∷ cs) = code c ∷ codes_of cs

-- where the first of the characters begins, without what was removed before it
abbrev pub start_of : List Character → ℕ
start_of [] = 0
start_of (c ∷ cs) = c.own

-- where the last of the characters ends, and `at` where there is none
abbrev pub end_of : ℕ → List Character → ℕ
end_of at [] = at
end_of at (c ∷ cs) = end_of c.to cs

abbrev pub ends_in_line_end : Bool → List Character → Bool
ends_in_line_end so_far [] = so_far
ends_in_line_end so_far (c ∷ cs) = ends_in_line_end (is_line_end (code c)) cs

-- a line end is added where the characters don't end in one; it takes what was removed at the end of the text
unfoldable pub closing_line_end : ℕ → List Character → List Character
closing_line_end end cs =
    if ends_in_line_end false cs then []
    else ((record { spelling = 10 ∷ []; from = end_of 0 cs; own = end; to = end }) ∷ [])

-- the characters of a text
abbrev pub characters_of : List ℕ → List Character
characters_of text = characters 0 0 (cut first_source (λ s. s.width) 0 text)

-- the logical characters of a text
abbrev pub logical : List ℕ → List Character
logical text = characters_of text ++ closing_line_end (length text) (characters_of text)
