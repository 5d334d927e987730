-- Tokens with their hide sets, what a token is, and the white space before it.
use Rattle.std.specs.Prelude.{ℕ, Bool, true, false, ◌&&◌, ◌||◌, List, [], ◌∷◌, Option, Some, None, bytes_eq, codes}
use Rattle.tok_data.specs.declared.tokens.PpKind.{PpKind}
use Rattle.tok_data.specs.declared.tokens.PpKind.TheVariants.{Ident, Punct, Char, Str}
use Rattle.tok_data.specs.declared.tokens.OutToken.{OutToken}
use Rattle.macro_expand.specs.declared.types.Marked.{Marked}

abbrev pub is_ident : PpKind → Bool
is_ident Ident = true
is_ident _ = false

abbrev pub is_punct : PpKind → Bool
is_punct Punct = true
is_punct _ = false

-- a character constant or a string literal
abbrev pub is_literal : PpKind → Bool
is_literal Char = true
is_literal Str = true
is_literal _ = false

-- a punctuator that is spelt so
unfoldable pub is_mark : List ℕ → OutToken → Bool
is_mark text t = is_punct t.kind && bytes_eq t.spelling text

-- the operators of a replacement list, each in both of its spellings (6.4.6)
unfoldable pub is_hash : OutToken → Bool
is_hash t = is_mark (codes "#") t || is_mark (codes "%:") t

unfoldable pub is_paste : OutToken → Bool
is_paste t = is_mark (codes "##") t || is_mark (codes "%:%:") t

-- `##` stands next
abbrev pub begins_paste : List OutToken → Bool
begins_paste [] = false
begins_paste (t ∷ ts) = is_paste t

-- a token of a list that is replaced for the first time
abbrev pub plain : OutToken → Marked
plain t = record { token = t; hides = [] }

abbrev pub spaced : Bool → Marked → Marked
spaced space t = record t { token = record t.token { space_before = space } }

-- the first token gets this white space before it
abbrev pub first_spaced : Bool → List Marked → List Marked
first_spaced space [] = []
first_spaced space (t ∷ ts) = spaced space t ∷ ts

-- white space that nothing took passes to the next token
abbrev pub passed_on : Bool → List Marked → List Marked
passed_on space [] = []
passed_on space (t ∷ ts) = spaced (t.token.space_before || space) t ∷ ts

-- the last element of a list with its front
abbrev pub with_first : {A : Type 0} → A → Option (List A × A) → Option (List A × A)
with_first x None = Some ([], x)
with_first x (Some p) = Some (x ∷ p.0, p.1)

abbrev pub last_of : {A : Type 0} → List A → Option (List A × A)
last_of [] = None
last_of (x ∷ xs) = with_first x (last_of xs)
