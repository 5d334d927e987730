-- How long a code point is in each encoding (LSP 3.17, PositionEncodingKind), and which code points fit in so many code units.
use Rattle.std.specs.Prelude.{ℕ, ◌+◌, ◌-◌, nat_lt, nat_le, cond, List, [], ◌∷◌}
use Rattle.std.specs.Char.{len_utf8}
use Rattle.text_lines.specs.declared.encoding.Encoding.{Encoding}
use Rattle.text_lines.specs.declared.encoding.Encoding.TheVariants.{Utf8, Utf16, Utf32}

-- the code units of a code point: its bytes in UTF-8 (RFC 3629, section 3); in UTF-16 (RFC 2781, section 2.1) one, or a
-- surrogate pair from U+10000 on; one in UTF-32
abbrev pub code_units : Encoding → ℕ → ℕ
code_units Utf8 c = len_utf8 c
code_units Utf16 c = cond (nat_lt c 0x1_0000) 1 2
code_units Utf32 c = 1

-- the code units of these code points together; `units Utf8` counts their bytes
abbrev pub units : Encoding → List ℕ → ℕ
units enc [] = 0
units enc (c ∷ rest) = code_units enc c + units enc rest

-- those of these code points, from the front, that lie wholly within the first n code units
abbrev pub fitting : Encoding → ℕ → List ℕ → List ℕ
fitting enc n [] = []
fitting enc n (c ∷ rest) = cond (nat_le (code_units enc c) n) (c ∷ fitting enc (n - code_units enc c) rest) []
