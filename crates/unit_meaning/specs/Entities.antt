-- The entities of a unit: one for each anchor that it declares, in the order of first tokens; of the last item that declares the anchor the
-- last one with it, as that item leaves it (ISO C11 6.2.7p4).
use Rattle.std.specs.Prelude.{List, [], ◌∷◌}
use Rattle.std.specs.Map.{values_of}
use Rattle.indexmap.specs.IndexMap.{insert_entry}
use Rattle.scope_tables.specs.Occurrences.{same_anchor}
use Rattle.scope_tables.specs.declared.entities.Anchor.{Anchor}
use Rattle.scope_tables.specs.declared.entities.Entity.{Entity}
use Rattle.scope_tables.specs.declared.meanings.BodyMeaning.{BodyMeaning}
use Rattle.scope_tables.specs.declared.meanings.HeadMeaning.{HeadMeaning}
use Rattle.unit_items.specs.Sources.{anchored}
use Rattle.unit_items.specs.Units.{Unit}
use Rattle.unit_items.specs.declared.items.Item.{Item}
use Rattle.unit_meaning.specs.Order.{front, behind, of_head, of_body}

-- an entity of an item as one of the unit
abbrev pub entity : Unit → Entity → Entity
entity u e = record e { anchor = anchored u.tokens u.items e.anchor }

-- entities by their anchors: a later one takes the place of an earlier one
abbrev pub By_anchor : Type 0
By_anchor = List (Anchor × Entity)

abbrev pub put : By_anchor → Entity → By_anchor
put all e = insert_entry same_anchor all e.anchor e

abbrev pub put_all : Unit → By_anchor → List Entity → By_anchor
put_all u all [] = all
put_all u all (e ∷ es) = put_all u (put all (entity u e)) es

abbrev pub with_heads : Unit → By_anchor → List HeadMeaning → By_anchor
with_heads u all [] = all
with_heads u all (h ∷ hs) = with_heads u (put_all u all h.entities) hs

abbrev pub with_bodies : Unit → By_anchor → List BodyMeaning → By_anchor
with_bodies u all [] = all
with_bodies u all (b ∷ bs) = with_bodies u (put_all u all b.entities) bs

abbrev pub with_items : Unit → By_anchor → List Item → List HeadMeaning → List BodyMeaning → By_anchor
with_items u all [] hs bs = all
with_items u all (i ∷ is) hs bs =
    with_items u (with_bodies u (with_heads u all (front of_head i.name hs)) (front of_body i.name bs)) is
    (behind of_head i.name hs) (behind of_body i.name bs)

abbrev pub entities : Unit → List HeadMeaning → List BodyMeaning → List Entity
entities u hs bs = values_of (with_items u [] u.items hs bs)
