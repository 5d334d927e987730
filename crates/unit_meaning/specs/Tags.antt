-- What is known of the tags of a unit at its end (ISO C11 6.7.2.3), those of all scopes: what the last item that declares one leaves.
use Rattle.std.specs.Prelude.{List, [], ◌∷◌}
use Rattle.indexmap.specs.IndexMap.{insert_entry}
use Rattle.scope_tables.specs.declared.entities.Entity.{Entity}
use Rattle.scope_tables.specs.declared.entities.EntityKind.{EntityKind}
use Rattle.scope_tables.specs.declared.entities.EntityKind.TheVariants as kind
use Rattle.scope_tables.specs.declared.meanings.BodyMeaning.{BodyMeaning}
use Rattle.scope_tables.specs.declared.meanings.HeadMeaning.{HeadMeaning}
use Rattle.type_data.specs.declared.members.TagInfo.{TagInfo}
use Rattle.type_data.specs.declared.names.TagId.{TagId}
use Rattle.type_data.specs.Same.{same_tag}

abbrev pub Tagging : Type 0
Tagging = List (TagId × TagInfo)

abbrev pub noted_kind : Tagging → EntityKind → Tagging
noted_kind tags (kind.Tag id info) = insert_entry same_tag tags id info
noted_kind tags kind.Object = tags
noted_kind tags kind.Function = tags
noted_kind tags kind.Typedef = tags
noted_kind tags kind.Enumerator = tags
noted_kind tags kind.Member = tags
noted_kind tags kind.Label = tags

abbrev pub noted : Tagging → List Entity → Tagging
noted tags [] = tags
noted tags (e ∷ es) = noted (noted_kind tags e.kind) es

abbrev pub of_heads : Tagging → List HeadMeaning → Tagging
of_heads tags [] = tags
of_heads tags (h ∷ hs) = of_heads (noted tags h.entities) hs

abbrev pub of_bodies : Tagging → List BodyMeaning → Tagging
of_bodies tags [] = tags
of_bodies tags (b ∷ bs) = of_bodies (noted tags b.entities) bs

-- a body declares tags of its own alone, so the order of heads and bodies says nothing
abbrev pub tags : List HeadMeaning → List BodyMeaning → Tagging
tags hs bs = of_bodies (of_heads [] hs) bs
