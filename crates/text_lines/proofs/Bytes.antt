-- The bytes of code points.
use Rattle.std.proofs.Common.{◌≡◌, ℕ, ◌+◌, Bool, true, false, length, List, [], ◌∷◌, ◌++◌, ◌&&◌, refl, ap, sym, ◌∙◌, length-append}
use Rattle.std.proofs.lemmas.Str.{length-encode, encodes-chars}
use lib.Utf8.{scalars, scalar, encodes, encode}
use Rattle.std.specs.Char.{len_utf8}
use Rattle.std.specs.Str.{IsUtf8, chars}
use Rattle.text_lines.specs.Units.{units}
use Rattle.text_lines.specs.declared.encoding.Encoding.TheVariants.{Utf8}

pub length_encodes : (cs : List ℕ) → length (encodes cs) ≡ units Utf8 cs
length_encodes [] = refl
length_encodes (c ∷ rest) = length-append (encode c) (encodes rest) ∙ ap (λ n. n + length (encodes rest)) (length-encode c) ∙ ap (λ n. len_utf8 c + n) (length_encodes rest)

pub bytes_of : (text : List ℕ) → IsUtf8 text → units Utf8 (chars text) ≡ length text
bytes_of text utf8 = sym (length_encodes (chars text)) ∙ ap length (encodes-chars text utf8)

and_second : (a b : Bool) → (a && b) ≡ true → b ≡ true
and_second true b h = h
and_second false b h = cc

pub scalars_behind : (xs ys : List ℕ) → scalars (xs ++ ys) ≡ true → scalars ys ≡ true
scalars_behind [] ys h = h
scalars_behind (x ∷ xs) ys h = scalars_behind xs ys (and_second (scalar x) _ h)
