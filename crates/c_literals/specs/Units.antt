-- The units of c-chars by their encoding prefix (ISO C11 6.4.4.4p9, 6.4.5p6): bytes of UTF-8, units of UTF-16, code points.
use Rattle.std.specs.Prelude.{ℕ, ◌+◌, ◌-◌, ◌/◌, ◌%◌, ◌^◌, ◌++◌, nat_lt, List, [], ◌∷◌, Option, Some, None, if◌then◌else◌}
use Rattle.std.specs.Char.{encode_utf8}
use Rattle.c_literals.specs.declared.prefix.Prefix.{Prefix}
use Rattle.c_literals.specs.declared.prefix.Prefix.TheVariants as prefix
use Rattle.c_literals.specs.CChars.{CChar, Plain, Escape, Stray}

-- the number behind the greatest unit
abbrev pub limit : Prefix → ℕ
limit prefix.Narrow = 2 ^ 8
limit prefix.Utf8 = 2 ^ 8
limit prefix.Char16 = 2 ^ 16
limit prefix.Char32 = 2 ^ 32
limit prefix.Wide = 2 ^ 32

-- a code point in UTF-16: past 16 bits it is a surrogate pair
unfoldable pub utf_16 : ℕ → List ℕ
utf_16 c = if nat_lt c 65536 then c ∷ [] else (55296 + (c - 65536) / 1024) ∷ (56320 + (c - 65536) % 1024) ∷ []

abbrev pub encoded : Prefix → ℕ → List ℕ
encoded prefix.Narrow c = encode_utf8 c
encoded prefix.Utf8 c = encode_utf8 c
encoded prefix.Char16 c = utf_16 c
encoded prefix.Char32 c = c ∷ []
encoded prefix.Wide c = c ∷ []

-- 6.4.4.4p9: the value of an escape is in the range of one unit
unfoldable pub one_unit : Prefix → ℕ → Option (List ℕ)
one_unit p n = if nat_lt n (limit p) then Some (n ∷ []) else None

-- the units of a c-char; none where it is no escape, or out of range
abbrev pub units_of : Prefix → CChar → Option (List ℕ)
units_of p (Plain c) = Some (encoded p c)
units_of p (Escape n) = one_unit p n
units_of p Stray = None

abbrev pub joined : Option (List ℕ) → Option (List ℕ) → Option (List ℕ)
joined None more = None
joined (Some us) None = None
joined (Some us) (Some more) = Some (us ++ more)

abbrev pub units : Prefix → List CChar → Option (List ℕ)
units p [] = Some []
units p (e ∷ es) = joined (units_of p e) (units p es)
