-- The items of a unit behind others, so that what they mean can be taken over by another unit.
use Rattle.std.specs.Prelude.{◌≡◌, ◌≤◌, List, [], ◌∷◌, ◌++◌, length, Option, Some, None}
use Rattle.item_readings.specs.Readings.{IsReader, Reader}
use Rattle.elab_state.specs.Tokens.{bare_tokens}
use Rattle.scope_tables.specs.declared.meanings.BodyMeaning.{BodyMeaning}
use Rattle.scope_tables.specs.declared.meanings.HeadMeaning.{HeadMeaning}
use Rattle.tok_data.specs.declared.tokens.OutToken.{OutToken}
use Rattle.unit_items.specs.declared.items.Item.{Item}
use Rattle.stmt_checks.specs.Folds.{bodies, head, own}

-- their heads, and their bodies, behind items with these heads
abbrev pub more_heads : Reader → List OutToken → List HeadMeaning → List Item → List HeadMeaning
more_heads r tokens front [] = []
more_heads r tokens front (i ∷ is) =
    head r i.name (own tokens i) front ∷ more_heads r tokens (front ++ head r i.name (own tokens i) front ∷ []) is

abbrev pub more_bodies : Reader → List OutToken → List HeadMeaning → List Item → List BodyMeaning
more_bodies r tokens front [] = []
more_bodies r tokens front (i ∷ is) =
    bodies r (own tokens i) (head r i.name (own tokens i) front) front
    ++ more_bodies r tokens (front ++ head r i.name (own tokens i) front ∷ []) is

-- these are theirs, whichever reader says what the tokens are
pub record AreMeant (tokens : List OutToken) (front : List HeadMeaning) (items : List Item) (hs : List HeadMeaning) (bs : List BodyMeaning) : Type 0 where
  pub heads : (r : Reader) → IsReader r → hs ≡ more_heads r tokens front items
  pub bodies : (r : Reader) → IsReader r → bs ≡ more_bodies r tokens front items

-- tokens are alike where they have the same kinds and spellings, wherever they stand
abbrev pub AreAlike : List OutToken → List OutToken → Type 0
AreAlike ts us = bare_tokens ts ≡ bare_tokens us

-- of a body that an item may not have
abbrev pub if_any : Option BodyMeaning → List BodyMeaning
if_any (Some b) = b ∷ []
if_any None = []

-- of a unit that was worked out: what its items mean, and how many tokens it may have
pub record IsLast (tokens : List OutToken) (items : List Item) (hs : List HeadMeaning) (bs : List BodyMeaning) : Type 0 where
  pub meant : AreMeant tokens [] items hs bs
  pub few : length tokens ≤ 2000000
