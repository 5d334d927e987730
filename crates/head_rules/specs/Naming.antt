-- Names that a structure, a union or an enumeration declares, with their tokens.
use Rattle.std.specs.Prelude.{ℕ, nat_eq, List, [], Option, Some, None}
use Rattle.std.specs.Cmp.Lexicographic.{pointwise}
use Rattle.std.specs.Map.{lookup}
use Rattle.type_data.specs.declared.names.TagId.{TagId}
use Rattle.head_rules.specs.declared.naming.NameToken.{NameToken}

-- a name, and the token that declares it
abbrev pub Named : Type 0
Named = List ℕ × TagId

-- what has a name among some names, by its token
abbrev pub there : List ℕ → List Named → Option TagId
there name names = lookup (pointwise nat_eq name) names

abbrev pub name_of : Option NameToken → Option (List ℕ)
name_of None = None
name_of (Some n) = Some n.name

abbrev pub token_of : Option NameToken → Option TagId
token_of None = None
token_of (Some n) = Some n.id

-- what a fault's text prints; nothing where there is no name
abbrev pub text_of : Option NameToken → List ℕ
text_of None = []
text_of (Some n) = n.name
