-- When an item means what one with the same tokens meant that was worked out before.
use Rattle.std.specs.Prelude.{◌≡◌, List, [], ◌∷◌, false, true, Option, Some}
use Rattle.earlier_items.specs.Before.{before, said}
use Rattle.earlier_items.specs.Differences.{Asks, has_question}
use Rattle.earlier_items.specs.declared.differences.Changed.{Changed}
use Rattle.elab_state.specs.Tokens.{bare_tokens}
use Rattle.elab_state.specs.Wants.{Told}
use Rattle.elab_state.specs.declared.wants.Wanted.{Wanted}
use Rattle.item_cut.specs.Items.{body_at}
use Rattle.scope_tables.specs.declared.meanings.BodyMeaning.{BodyMeaning}
use Rattle.scope_tables.specs.declared.meanings.HeadMeaning.{HeadMeaning}
use Rattle.tok_data.specs.declared.tokens.OutToken.{OutToken}
use Rattle.type_data.specs.declared.names.ItemName.{ItemName}
use Rattle.unit_items.specs.declared.items.Item.{Item}
use Rattle.stmt_checks.specs.Firm.{IsBody, IsHead, tokens_of}
use Rattle.stmt_checks.specs.Folds.{body_tokens, head_tokens, is_checked, own}
use Rattle.stmt_checks.specs.declared.parts.BodyPart.{BodyPart}
use Rattle.stmt_checks.specs.declared.parts.KeptItem.{KeptItem}
use Rattle.stmt_checks.specs.declared.parts.Part.{Part}

-- all names of these tokens are as they were
abbrev pub AreLeft : Changed → List OutToken → Type 0
AreLeft changed ts = (q : Wanted) → Asks ts q → has_question changed q ≡ false

-- ---- what is found out of an item with these tokens

pub record HeadStays (name : ItemName) (ts : List OutToken) (changed : Changed) (p : Part) : Type 0 where
  pub named : name ≡ p.name
  pub alike : bare_tokens (head_tokens ts) ≡ tokens_of p.words.items
  pub left : AreLeft changed (bare_tokens (head_tokens ts))

pub record SameBody (ts : List OutToken) (changed : Changed) (p : BodyPart) : Type 0 where
  pub alike : bare_tokens (body_tokens ts) ≡ tokens_of p.words.items
  pub base : p.base ≡ body_at ts
  pub left : AreLeft changed (bare_tokens (body_tokens ts))

pub record BodyStays (ts : List OutToken) (h : HeadMeaning) (changed : Changed) (found : Option BodyPart) : Type 0 where
  pub p : BodyPart
  pub is : found ≡ Some p
  pub checked : is_checked ts h ≡ true
  pub same : SameBody ts changed p

-- ---- what then holds of it behind these items

abbrev pub HeadHolds : ItemName → List OutToken → List HeadMeaning → Changed → KeptItem → Type 0
HeadHolds name ts front changed k = HeadStays name ts changed k.part → IsHead front name k.head (bare_tokens (head_tokens ts))

abbrev pub BodyHolds : List OutToken → List HeadMeaning → Changed → KeptItem → Type 0
BodyHolds ts front changed k =
    (p : BodyPart) (b : BodyMeaning) → k.part.body ≡ Some p → k.body ≡ Some b → SameBody ts changed p → IsBody front k.head b (bare_tokens (body_tokens ts)) (body_at ts)

-- ---- of some items: what those in front of all say of their names, and what was said of those that are left as they were

abbrev pub PartNamed : Told → List HeadMeaning → List OutToken → Type 0
PartNamed names first ts = (q : Wanted) → Asks ts q → said names q ≡ before first q

abbrev pub PartLeft : Told → List HeadMeaning → Changed → List OutToken → Type 0
PartLeft names first changed ts = (q : Wanted) → Asks ts q → has_question changed q ≡ false → said names q ≡ before first q

pub record ItemRead (was names : Told) (first : List HeadMeaning) (changed : Changed) (ts : List OutToken) : Type 0 where
  pub head_named : PartNamed names first (bare_tokens (head_tokens ts))
  pub body_named : PartNamed names first (bare_tokens (body_tokens ts))
  pub head_left : PartLeft was first changed (bare_tokens (head_tokens ts))
  pub body_left : PartLeft was first changed (bare_tokens (body_tokens ts))

abbrev pub AllRead : Told → Told → List HeadMeaning → Changed → List OutToken → List Item → Type 0
AllRead was names first changed tokens [] = Unit {0}
AllRead was names first changed tokens (i ∷ is) = ItemRead was names first changed (own tokens i) × AllRead was names first changed tokens is
