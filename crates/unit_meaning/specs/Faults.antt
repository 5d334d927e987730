-- The faults of a unit, items after items: of each what its head and its body break (ISO C11 6.5 to 6.9); behind
-- them those of the unit's end.
use Rattle.std.specs.Prelude.{List, [], ◌∷◌, ◌++◌, map}
use Rattle.std.specs.List.{flat_map}
use Rattle.fault_texts.specs.Printed.{message}
use Rattle.scope_tables.specs.declared.meanings.BodyMeaning.{BodyMeaning}
use Rattle.scope_tables.specs.declared.meanings.HeadMeaning.{HeadMeaning}
use Rattle.tok_data.specs.declared.faults.ShownFault.{ShownFault}
use Rattle.type_data.specs.declared.judged.Fault.{Fault}
use Rattle.type_data.specs.declared.members.TagInfo.{TagInfo}
use Rattle.type_data.specs.declared.names.ItemName.{ItemName}
use Rattle.type_data.specs.declared.names.TagId.{TagId}
use Rattle.unit_items.specs.Units.{Unit}
use Rattle.unit_items.specs.declared.items.Item.{Item}
use Rattle.unit_meaning.specs.Order.{front, behind, of_head, of_body}
use Rattle.unit_meaning.specs.Sites.{Entry, fallen_in}

-- what a fault is shown by: where it falls, and the tags that its types name
pub record Showing : Type 0 where
  pub unit : Unit
  pub reached : List Entry
  pub tags : List (TagId × TagInfo)

abbrev pub shown : Showing → ItemName → Fault → ShownFault
shown s item f = record { tok = fallen_in s.unit s.reached item f.at; rule = f.rule; text = message s.tags f }

abbrev pub of_heads : Showing → List HeadMeaning → List ShownFault
of_heads s hs = flat_map (λ h. map (shown s h.item) h.faults) hs

abbrev pub of_bodies : Showing → List BodyMeaning → List ShownFault
of_bodies s bs = flat_map (λ b. map (shown s b.item) b.faults) bs

abbrev pub of_pairs : Showing → List (ItemName × Fault) → List ShownFault
of_pairs s ps = map (λ p. shown s p.0 p.1) ps

abbrev pub of_items : Showing → List Item → List HeadMeaning → List BodyMeaning → List ShownFault
of_items s [] hs bs = []
of_items s (i ∷ is) hs bs =
    of_heads s (front of_head i.name hs)
    ++ (of_bodies s (front of_body i.name bs)
    ++ of_items s is (behind of_head i.name hs) (behind of_body i.name bs))
