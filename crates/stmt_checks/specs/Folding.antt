-- What the code keeps of the items so far.
use Rattle.std.specs.Prelude.{◌≡◌, ◌∷◌, List}
use Rattle.earlier_items.specs.Before.{AreBefore}
use Rattle.item_readings.specs.Readings.{IsReader, Reader}
use Rattle.scope_tables.specs.declared.meanings.BodyMeaning.{BodyMeaning}
use Rattle.scope_tables.specs.declared.meanings.HeadMeaning.{HeadMeaning}
use Rattle.tok_data.specs.declared.tokens.OutToken.{OutToken}
use Rattle.unit_items.specs.declared.items.Item.{Item}
use Rattle.stmt_checks.specs.Folds.{Folded, all_items, head, own, with_head, with_item}
use Rattle.stmt_checks.specs.Last.{AreMeant}
use Rattle.stmt_checks.specs.declared.folding.Folding.{Folding}

abbrev pub folded_of : Folding → Folded
folded_of f = record { heads = f.heads.items; bodies = f.bodies.items }

-- an item with these tokens was added with the head of one with others, whichever unit's these heads and bodies were, where that one stood next
pub record Takes (us ts : List OutToken) (f g : Folding) (hs hs' : List HeadMeaning) (bs bs' : List BodyMeaning) : Type 0 where
  pub item : (before : List OutToken) → (j : Item) → (is : List Item) → own before j ≡ us → AreMeant before f.heads.items (j ∷ is) hs bs →
      (r : Reader) → IsReader r → folded_of g ≡ with_head r ts (head r j.name us f.heads.items) (folded_of f)
  pub rest : (before : List OutToken) → (j : Item) → (is : List Item) → own before j ≡ us → AreMeant before f.heads.items (j ∷ is) hs bs →
      AreMeant before g.heads.items is hs' bs'

-- an item was added as another one, which has the same name
pub record TakesItem (i : Item) (ts : List OutToken) (j : Item) (us : List OutToken) (f g : Folding) (hs hs' : List HeadMeaning) (bs bs' : List BodyMeaning) : Type 0 where
  pub item : (before : List OutToken) → (is : List Item) → own before j ≡ us → AreMeant before f.heads.items (j ∷ is) hs bs →
      (r : Reader) → IsReader r → folded_of g ≡ with_head r ts (head r i.name ts f.heads.items) (folded_of f)
  pub rest : (before : List OutToken) → (is : List Item) → own before j ≡ us → AreMeant before f.heads.items (j ∷ is) hs bs →
      AreMeant before g.heads.items is hs' bs'

-- what these items and the rest come to is what all come to
pub record Goes (tokens : List OutToken) (a : Folded) (items : List Item) (f : Folding) (rest : List Item) : Type 0 where
  pub known : AreBefore f.heads.items f.earlier
  pub goes : (r : Reader) → IsReader r → all_items r tokens (folded_of f) rest ≡ all_items r tokens a items
