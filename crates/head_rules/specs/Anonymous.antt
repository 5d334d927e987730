-- The names that a member brings to its structure or union (ISO C11 6.7.2.1p13): its own, or those of an anonymous structure or union.
use Rattle.std.specs.Prelude.{ℕ, zero, suc, List, [], ◌∷◌, ◌++◌, Option, Some, None}
use Rattle.std.specs.Map.{lookup}
use Rattle.type_data.specs.declared.members.Member.{Member}
use Rattle.type_data.specs.declared.members.TagInfo.{TagInfo}
use Rattle.type_data.specs.declared.names.TagId.{TagId}
use Rattle.type_data.specs.Same.{same_tag}
use Rattle.type_data.specs.Types.{Ty, Void_type, Basic_type, Enumerated_type, Tagged_type, Pointer_to, Array_of, Function_of, Bad_type}
use Rattle.type_rel.specs.Inside.{inside_or, most_tags}
use Rattle.type_rel.specs.Kinds.{Tagging}
use Rattle.head_rules.specs.Naming.{Named}

abbrev pub of_type : (TagId → List Named) → Ty → List Named
of_type enter (Tagged_type id) = enter id
of_type enter Void_type = []
of_type enter (Basic_type b) = []
of_type enter (Enumerated_type id) = []
of_type enter (Pointer_to t q) = []
of_type enter (Array_of t q n) = []
of_type enter (Function_of t ps p) = []
of_type enter Bad_type = []

abbrev pub itself : List ℕ → Option TagId → List Named
itself name (Some id) = (name, id) ∷ []
itself name None = []

abbrev pub of_member : (TagId → List Named) → Member → Option (List ℕ) → List Named
of_member enter m (Some name) = itself name m.at
of_member enter m None = of_type enter m.ty

abbrev pub names_from : (TagId → List Named) → List Member → List Named
names_from enter [] = []
names_from enter (m ∷ ms) = of_member enter m m.name ++ names_from enter ms

abbrev pub of_members : (TagId → List Named) → Option (List Member) → List Named
of_members enter None = []
of_members enter (Some ms) = names_from enter ms

abbrev pub of_info : (TagId → List Named) → Option TagInfo → List Named
of_info enter None = []
of_info enter (Some info) = of_members enter info.members

-- by a bound on how deep tags are inside of one another, which is above their number
abbrev pub names_in : ℕ → Tagging → List TagId → TagId → List Named
names_in zero tags inside id = []
names_in (suc n) tags inside id = inside_or inside id [] (of_info (λ other. names_in n tags (id ∷ inside) other) (lookup (same_tag id) tags))

unfoldable pub names_of_type : Tagging → Ty → List Named
names_of_type tags t = of_type (λ id. names_in most_tags tags [] id) t
