-- What a hover shows of an entity.
use Rattle.std.specs.Prelude.{ℕ, List, ◌++◌, codes, Option, Some, None}
use Rattle.std.specs.Fmt.{signed_decimal}
use Rattle.type_data.specs.declared.members.TagInfo.{TagInfo}
use Rattle.type_data.specs.declared.names.TagId.{TagId}
use Rattle.type_data.specs.declared.values.Value.{Value}
use Rattle.type_data.specs.declared.values.Value.TheVariants as value
use Rattle.type_print.specs.Names.{kind_name}
use Rattle.type_print.specs.Printed.{text}
use Rattle.scope_tables.specs.declared.entities.Entity.{Entity}
use Rattle.scope_tables.specs.declared.entities.EntityKind.{EntityKind}
use Rattle.scope_tables.specs.declared.entities.EntityKind.TheVariants as kind

abbrev pub Tagging : Type 0
Tagging = List (TagId × TagInfo)

abbrev pub declaration : Tagging → Entity → List ℕ
declaration tags e = text tags e.ty e.qual e.name

abbrev pub typedef_name : Tagging → Entity → List ℕ
typedef_name tags e = codes "typedef " ++ declaration tags e

-- one that isn't known is `?`
abbrev pub value_text : Option Value → List ℕ
value_text None = codes "?"
value_text (Some (value.Known z)) = signed_decimal z
value_text (Some value.Unknown) = codes "?"
value_text (Some (value.Faulty rule)) = codes "?"

abbrev pub enumerator : Entity → List ℕ
enumerator e = (e.name ++ codes " = ") ++ value_text e.value

abbrev pub of_kind : EntityKind → Tagging → Entity → List ℕ
of_kind kind.Object tags e = declaration tags e
of_kind kind.Function tags e = declaration tags e
of_kind kind.Member tags e = declaration tags e
of_kind kind.Typedef tags e = typedef_name tags e
of_kind (kind.Tag id info) tags e = kind_name info.kind ++ e.name
of_kind kind.Enumerator tags e = enumerator e
of_kind kind.Label tags e = codes "label " ++ e.name

abbrev pub hover_text : Tagging → Entity → List ℕ
hover_text tags e = of_kind e.kind tags e
