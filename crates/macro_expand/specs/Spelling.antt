-- What the operator `#` makes of an argument (ISO C11 6.10.3.2).
use Rattle.std.specs.Prelude.{ℕ, Bool, true, false, ◌||◌, ◌==◌, List, [], ◌∷◌, ◌++◌, if◌then◌else◌, chars, encode_utf8}
use Rattle.std.specs.Prelude.{flat_map}
use Rattle.tok_data.specs.declared.sources.TokId.{TokId}
use Rattle.tok_data.specs.declared.tokens.PpKind.TheVariants.{Str}
use Rattle.tok_data.specs.declared.tokens.Spelt.{Spelt}
use Rattle.tok_data.specs.declared.tokens.Spelt.TheVariants.{At, Made}
use Rattle.tok_data.specs.declared.tokens.OutToken.{OutToken}
use Rattle.macro_expand.specs.declared.types.Marked.{Marked}
use Rattle.macro_expand.specs.Tokens.{is_literal, plain}

-- a character with a backslash before it where it is `"` or a backslash
unfoldable pub escaped_char : ℕ → List ℕ
escaped_char c = if c == 34 || c == 92 then 92 ∷ encode_utf8 c else encode_utf8 c

abbrev pub escaped : List ℕ → List ℕ
escaped text = flat_map escaped_char (chars text)

unfoldable pub shown : OutToken → List ℕ
shown t = if is_literal t.kind then escaped t.spelling else t.spelling

-- white space between two tokens is one blank
abbrev pub blank : Bool → Bool → List ℕ
blank first space = if first then [] else (if space then 32 ∷ [] else [])

abbrev pub joined : Bool → List Marked → List ℕ
joined first [] = []
joined first (t ∷ ts) = blank first t.token.space_before ++ shown t.token ++ joined false ts

abbrev pub quoted : List ℕ → List ℕ
quoted text = 34 ∷ (text ++ 34 ∷ [])

-- the string literal that stands for an argument, with the white space of its `#`
unfoldable pub string_of : OutToken → List Marked → Marked
string_of hash arg = plain (record hash { kind = Str; spelling = quoted (joined true arg); spelt = Made })

-- the source tokens of an argument
abbrev pub source_of : Spelt → List TokId
source_of (At tok) = tok ∷ []
source_of Made = []

abbrev pub sources : List Marked → List TokId
sources ts = flat_map (λ t. source_of t.token.spelt) ts
