-- The text of a type round that of a declarator (ISO C11 6.7.6).
use Rattle.std.specs.Prelude.{ℕ, Bool, true, false, ◌==◌, List, [], ◌∷◌, ◌++◌, codes, decimal, if◌then◌else◌}
use Rattle.type_data.specs.declared.members.TagInfo.{TagInfo}
use Rattle.type_data.specs.declared.members.TagKind.TheVariants.{Struct, Enum}
use Rattle.type_data.specs.declared.names.TagId.{TagId}
use Rattle.type_data.specs.declared.qualifiers.Extent.{Extent}
use Rattle.type_data.specs.declared.qualifiers.Extent.TheVariants as extent
use Rattle.type_data.specs.declared.qualifiers.Proto.{Proto}
use Rattle.type_data.specs.declared.qualifiers.Proto.TheVariants as proto
use Rattle.type_data.specs.declared.qualifiers.Qual.{Qual}
use Rattle.type_data.specs.Types.{Ty, Void_type, Basic_type, Enumerated_type, Tagged_type, Pointer_to, Array_of, Function_of, Bad_type, Parameters, No_more, Parameter_then}
use Rattle.type_print.specs.Names.{words, spaced, parted, basic_name, tag_in}

abbrev pub unqualified : Qual
unqualified = record { is_const = false; is_restrict = false; is_volatile = false }

-- a declarator behind other words
abbrev pub behind : List ℕ → List ℕ
behind [] = []
behind (c ∷ cs) = codes " " ++ (c ∷ cs)

-- the name of a type that isn't derived, with qualifiers
abbrev pub plain : List ℕ → Qual → List ℕ → List ℕ
plain name q d = spaced (words q) ++ (name ++ behind d)

abbrev pub starred : List (List ℕ) → List ℕ → List ℕ
starred [] d = codes "*" ++ d
starred (w ∷ ws) d = codes "*" ++ (parted (w ∷ ws) ++ behind d)

-- in front of `[` and `(` a declarator that begins with `*` stands in parentheses
abbrev pub begins_with_star : List ℕ → Bool
begins_with_star [] = false
begins_with_star (c ∷ cs) = c == 42

abbrev pub grouped : List ℕ → List ℕ
grouped d = if begins_with_star d then codes "(" ++ (d ++ codes ")") else d

abbrev pub size_text : Extent → List ℕ
size_text extent.None = []
size_text (extent.Size n) = decimal n
size_text extent.Unknown = codes "?"

abbrev pub bracketed : Extent → List ℕ → List ℕ
bracketed n d = grouped d ++ (codes "[" ++ (size_text n ++ codes "]"))

abbrev pub called : List ℕ → List ℕ → List ℕ
called l d = grouped d ++ (codes "(" ++ (l ++ codes ")"))

-- what a list of parameters says behind its types
abbrev pub listed : Proto → List ℕ → Bool → List ℕ
listed proto.Old l empty = []
listed proto.Fixed l empty = if empty then codes "void" else l
listed proto.Variadic l empty = l ++ codes ", ..."

abbrev pub is_empty : Parameters → Bool
is_empty No_more = true
is_empty (Parameter_then t q ps) = false

abbrev mutual
  pub text : List (TagId × TagInfo) → Ty → Qual → List ℕ → List ℕ
  text tags Void_type q d = plain (codes "void") q d
  text tags (Basic_type b) q d = plain (basic_name b) q d
  text tags (Enumerated_type id) q d = plain (tag_in Enum tags id) q d
  text tags (Tagged_type id) q d = plain (tag_in Struct tags id) q d
  text tags (Pointer_to t r) q d = text tags t r (starred (words q) d)
  text tags (Array_of t r n) q d = text tags t r (bracketed n d)
  text tags (Function_of t ps p) q d = text tags t unqualified (called (listed p (params tags ps) (is_empty ps)) d)
  text tags Bad_type q d = plain (codes "?") q d

  -- the parameters' types, joined
  pub params : List (TagId × TagInfo) → Parameters → List ℕ
  params tags No_more = []
  params tags (Parameter_then t q ps) = text tags t q [] ++ more_params tags ps

  pub more_params : List (TagId × TagInfo) → Parameters → List ℕ
  more_params tags No_more = []
  more_params tags (Parameter_then t q ps) = codes ", " ++ (text tags t q [] ++ more_params tags ps)
