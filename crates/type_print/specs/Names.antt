-- The words of qualifiers, basic types and tags.
use Rattle.std.specs.Prelude.{ℕ, Bool, ◌||◌, List, [], ◌∷◌, ◌++◌, Option, Some, None, codes, if◌then◌else◌}
use Rattle.std.specs.Map.{lookup}
use Rattle.type_data.specs.declared.basics.Basic.{Basic}
use Rattle.type_data.specs.declared.basics.Basic.TheVariants as basic
use Rattle.type_data.specs.declared.members.TagInfo.{TagInfo}
use Rattle.type_data.specs.declared.members.TagKind.{TagKind}
use Rattle.type_data.specs.declared.members.TagKind.TheVariants as kind
use Rattle.type_data.specs.declared.names.TagId.{TagId}
use Rattle.type_data.specs.declared.qualifiers.Qual.{Qual}
use Rattle.type_data.specs.Same.{same_tag}

abbrev pub word_if : Bool → List ℕ → List (List ℕ)
word_if holds word = if holds then word ∷ [] else []

-- the words of qualifiers, in this order
abbrev pub words : Qual → List (List ℕ)
words q = word_if q.is_const (codes "const") ++ (word_if q.is_restrict (codes "restrict") ++ word_if q.is_volatile (codes "volatile"))

-- each followed by a space
abbrev pub spaced : List (List ℕ) → List ℕ
spaced [] = []
spaced (w ∷ ws) = w ++ (codes " " ++ spaced ws)

-- parted by spaces
abbrev pub parted : List (List ℕ) → List ℕ
parted [] = []
parted (w ∷ []) = w
parted (w ∷ (v ∷ ws)) = w ++ (codes " " ++ parted (v ∷ ws))

abbrev pub has_words : Qual → Bool
has_words q = q.is_const || q.is_restrict || q.is_volatile

-- a word behind others
abbrev pub parted_if : Bool → Bool → List ℕ → List ℕ
parted_if holds first word = if holds then (if first then word else codes " " ++ word) else []

abbrev pub basic_name : Basic → List ℕ
basic_name basic.Bool = codes "_Bool"
basic_name basic.Char = codes "char"
basic_name basic.SChar = codes "signed char"
basic_name basic.UChar = codes "unsigned char"
basic_name basic.Short = codes "short"
basic_name basic.UShort = codes "unsigned short"
basic_name basic.Int = codes "int"
basic_name basic.UInt = codes "unsigned int"
basic_name basic.Long = codes "long"
basic_name basic.ULong = codes "unsigned long"
basic_name basic.LongLong = codes "long long"
basic_name basic.ULongLong = codes "unsigned long long"
basic_name basic.Float = codes "float"
basic_name basic.Double = codes "double"
basic_name basic.LongDouble = codes "long double"

abbrev pub kind_name : TagKind → List ℕ
kind_name kind.Struct = codes "struct "
kind_name kind.Union = codes "union "
kind_name kind.Enum = codes "enum "

-- a tag of which nothing is known counts as one of this kind
abbrev pub kind_in : TagKind → Option TagInfo → TagKind
kind_in k None = k
kind_in k (Some info) = info.kind

abbrev pub or_anonymous : Option (List ℕ) → List ℕ
or_anonymous None = codes "<anonymous>"
or_anonymous (Some name) = name

-- a tag without a name, or of which nothing is known
abbrev pub name_in : Option TagInfo → List ℕ
name_in None = or_anonymous None
name_in (Some info) = or_anonymous info.name

abbrev pub tag_in : TagKind → List (TagId × TagInfo) → TagId → List ℕ
tag_in k tags id = kind_name (kind_in k (lookup (same_tag id) tags)) ++ name_in (lookup (same_tag id) tags)
