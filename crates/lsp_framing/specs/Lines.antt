-- The header part of a frame: its lines, and what they state (LSP 3.17, "Base Protocol", "Header Part").
-- 10 is LF, 13 CR, 58 ':', 32 a blank and 9 a tab.
use Rattle.std.specs.Prelude.{ℕ, zero, suc, ◌+◌, ◌-◌, Bool, true, false, if◌then◌else◌, not, ◌&&◌, ◌||◌, ◌==◌, nat_lt, List, [], ◌∷◌, length, take, drop, option_map, Option, Some, None, Result, Ok, Err, position, codes}
use Rattle.std.specs.List.{prefix_len, suffix_len, list_all}
use Rattle.std.specs.Option.{option_map_or}
use Rattle.std.specs.Char.{is_ascii_digit}
use Rattle.std.specs.Int.{is_in_range}
use Rattle.std.specs.Str.{str_eq_ignore_ascii_case}
use Rattle.std.specs.Str.Parse.{digits_value}
use Rattle.lsp_framing.specs.declared.FrameKind.{FrameKind}
use Rattle.lsp_framing.specs.declared.FrameKind.TheVariants.{NoLength, BadLength, BadField, ContentLong}

-- the next byte is an LF
abbrev pub begins_with_lf : List ℕ → Bool
begins_with_lf [] = false
begins_with_lf (b ∷ rest) = b == 10

-- where the first CR LF of a text begins
abbrev pub line_end : List ℕ → Option ℕ
line_end [] = None
line_end (b ∷ rest) = if b == 13 && begins_with_lf rest then Some 0 else option_map (λ n. n + 1) (line_end rest)

-- The lines of a text that have ended, each at the first CR LF from its start. The first `skip` bytes belong to a line before.
abbrev pub lines_behind : ℕ → List ℕ → List (List ℕ)
lines_behind skip [] = []
lines_behind (suc skip) (b ∷ rest) = lines_behind skip rest
lines_behind zero (b ∷ rest) = option_map_or (λ n. take n (b ∷ rest) ∷ lines_behind (n + 1) rest) (line_end (b ∷ rest)) []

abbrev pub lines : List ℕ → List (List ℕ)
lines text = lines_behind 0 text

-- a field's name is one byte or more from 0x21 to 0x7E, other than ':', which ends it
unfoldable pub is_name : List ℕ → Bool
is_name name = nat_lt 0 (length name) && list_all (λ b. is_in_range 33 126 b) name

-- no CR and no LF stands in a line
unfoldable pub is_unbroken : List ℕ → Bool
is_unbroken text = list_all (λ b. not (b == 13 || b == 10)) text

abbrev pub is_blank : ℕ → Bool
is_blank b = b == 32 || b == 9

-- the text without the blanks and tabs round it
unfoldable pub trimmed : List ℕ → List ℕ
trimmed text = let behind = drop (prefix_len is_blank text) text in take (length behind - suffix_len is_blank behind) behind

-- one decimal digit or more, and nothing else
unfoldable pub is_number : List ℕ → Bool
is_number text = nat_lt 0 (length text) && list_all is_ascii_digit text

-- the most bytes that a content has
abbrev pub longest_content : ℕ
longest_content = 16777216

-- an earlier length that is stated is this one
abbrev pub agrees : Option ℕ → ℕ → Bool
agrees None number = true
agrees (Some earlier) number = earlier == number

-- The length that a header states once `number` is stated too, where `stated` is what it stated before, or the fault.
unfoldable pub with_number : Option ℕ → ℕ → Result (Option ℕ) FrameKind
with_number stated number =
    if agrees stated number
    then (if nat_lt longest_content number then Err ContentLong else Ok (Some number))
    else Err BadLength

-- The same behind a `Content-Length` of this value, behind a field, and behind a line. The name ends at the first ':'.
unfoldable pub with_length : Option ℕ → List ℕ → Result (Option ℕ) FrameKind
with_length stated value = if is_number value then with_number stated (digits_value 10 value) else Err BadLength

unfoldable pub with_field : Option ℕ → List ℕ → List ℕ → Result (Option ℕ) FrameKind
with_field stated name value =
    if is_name name && is_unbroken value
    then (if str_eq_ignore_ascii_case name (codes "content-length") then with_length stated (trimmed value) else Ok stated)
    else Err BadField

unfoldable pub with_line : Option ℕ → List ℕ → Result (Option ℕ) FrameKind
with_line stated line = option_map_or (λ colon. with_field stated (take colon line) (drop (colon + 1) line)) (position (λ b. b == 58) line) (Err BadField)

-- What the front of an input is: a header part of so many bytes, whose content has so many; a fault at this place of the
-- kind; or neither yet.
pub data Header : Type 0 where
  Ended : ℕ → ℕ → Header
  Fault : ℕ → FrameKind → Header
  Unended : Header

abbrev pub or_fault : Result (Option ℕ) FrameKind → ℕ → (Option ℕ → Header) → Header
or_fault (Ok stated) place next = next stated
or_fault (Err kind) place next = Fault place kind

-- The lines one after the other. The first of them begins at `place`, and the lines before it state `stated`.
-- A line of n bytes takes n + 2, and an empty one ends the header part.
abbrev pub header_from : Option ℕ → ℕ → List (List ℕ) → Header
header_from stated place [] = Unended
header_from stated place ([] ∷ rest) = option_map_or (λ size. Ended (place + 2) size) stated (Fault (place + 2) NoLength)
header_from stated place ((b ∷ bs) ∷ rest) = or_fault (with_line stated (b ∷ bs)) place (λ next. header_from next (place + length (b ∷ bs) + 2) rest)

-- the most bytes of an input in which a header part is looked for
abbrev pub longest_header : ℕ
longest_header = 4096

unfoldable pub header : List ℕ → Header
header bytes = header_from None 0 (lines (take longest_header bytes))
