-- The occurrences of a unit (ISO C11 6.2.1p1), in the order of output tokens: items after items, of each those in its head and those in its body.
use Rattle.std.specs.Prelude.{List, [], ◌∷◌, ◌++◌, map}
use Rattle.std.specs.List.{flat_map}
use Rattle.scope_tables.specs.declared.entities.Occ.{Occ}
use Rattle.scope_tables.specs.declared.meanings.BodyMeaning.{BodyMeaning}
use Rattle.scope_tables.specs.declared.meanings.HeadMeaning.{HeadMeaning}
use Rattle.unit_items.specs.Sources.{occurrence}
use Rattle.unit_items.specs.Units.{Unit}
use Rattle.unit_items.specs.declared.items.Item.{Item}
use Rattle.unit_meaning.specs.Order.{front, behind, of_head, of_body}

abbrev pub in_heads : List HeadMeaning → List Occ
in_heads hs = flat_map (λ h. h.occs) hs

abbrev pub in_bodies : List BodyMeaning → List Occ
in_bodies bs = flat_map (λ b. b.occs) bs

-- as the items tell them
abbrev pub in_items : List Item → List HeadMeaning → List BodyMeaning → List Occ
in_items [] hs bs = []
in_items (i ∷ is) hs bs =
    in_heads (front of_head i.name hs)
    ++ (in_bodies (front of_body i.name bs)
    ++ in_items is (behind of_head i.name hs) (behind of_body i.name bs))

-- as the unit does
abbrev pub of_unit : Unit → List Occ → List Occ
of_unit u occs = map (occurrence u.tokens u.items) occs
