-- The own items of a unit, one after another, behind those of its headers.
use Rattle.std.specs.Prelude.{ℕ, ◌≡◌, ◌≤◌, List, ◌++◌, drop, length}
use Rattle.earlier_items.specs.Before.{tags_before}
use Rattle.earlier_items.specs.declared.differences.Changed.{Changed}
use Rattle.elab_state.specs.Wants.{Told}
use Rattle.elab_state.specs.declared.wants.Wanted.{Wanted}
use Rattle.scope_tables.specs.declared.meanings.BodyMeaning.{BodyMeaning}
use Rattle.scope_tables.specs.declared.meanings.HeadMeaning.{HeadMeaning}
use Rattle.tok_data.specs.declared.tokens.OutToken.{OutToken}
use Rattle.unit_items.specs.declared.items.Item.{Item}
use Rattle.stmt_checks.specs.Firm.{AreFirm, IsKept}
use Rattle.stmt_checks.specs.Folding.{Goes}
use Rattle.stmt_checks.specs.Folds.{Folded}
use Rattle.stmt_checks.specs.Taking.{AllRead}
use Rattle.stmt_checks.specs.declared.folding.Folding.{Folding}
use Rattle.stmt_checks.specs.declared.kept.Noted.{Noted}
use Rattle.stmt_checks.specs.declared.kept.Read.{Read}
use Rattle.stmt_checks.specs.declared.parts.Part.{Part}

-- so many items were added behind those in front (`first`, `firsts`), and with firm items behind them all are
pub record Owns (names : Told) (first : List HeadMeaning) (firsts : List BodyMeaning) (f : Folding) (parts : List Part) : Type 0 where
  pub hs : List HeadMeaning
  pub bs : List BodyMeaning
  pub heads : f.heads.items ≡ first ++ hs
  pub bodies : f.bodies.items ≡ firsts ++ bs
  pub firmly : (ps : List Part) (hs' : List HeadMeaning) (bs' : List BodyMeaning) → AreFirm names first f.heads.items ps hs' bs' →
      AreFirm names first first (parts ++ ps) (hs ++ hs') (bs ++ bs')

-- what is given of a unit: its tokens, what its first items come to, and its own items with what they read
pub record Unit_of : Type 0 where
  pub tokens : List OutToken
  pub first : List HeadMeaning
  pub firsts : List BodyMeaning
  pub items : List Item
  pub was : Told
  pub names : Told
  pub changed : Changed

abbrev pub front_of : Unit_of → Folded
front_of u = record { heads = u.first; bodies = u.firsts }

-- all but the rest were added
pub record Adding (u : Unit_of) (f : Folding) (parts : List Part) (rest : List Item) : Type 0 where
  pub goes : Goes u.tokens (front_of u) u.items f rest
  pub owns : Owns u.names u.first u.firsts f parts
  pub read : AllRead u.was u.names u.first u.changed u.tokens rest

-- and those were taken over from an earlier version of the unit, which has these left, behind items that say the same of tags
pub record TakingOver (u : Unit_of) (f : Folding) (parts : List Part) (rest : List Item) (before : List HeadMeaning) (ps : List Part) (hs : List HeadMeaning) (bs : List BodyMeaning) : Type 0 where
  pub adding : Adding u f parts rest
  pub left : AreFirm u.was before (before ++ adding.owns.hs) ps hs bs
  pub tags : (q : Wanted) → tags_before before q ≡ tags_before u.first q

-- some unit's items are being taken over
pub record IsTaking (tokens : List OutToken) (changed : Changed) (f : Folding) (parts : List Part) (rest : List Item) (ps : List Part) (hs : List HeadMeaning) (bs : List BodyMeaning) : Type 0 where
  pub u : Unit_of
  pub before : List HeadMeaning
  pub tokens_are : u.tokens ≡ tokens
  pub changed_are : u.changed ≡ changed
  pub taking : TakingOver u f parts rest before ps hs bs

-- the own items of a unit, all firm behind those in front
pub record IsOwn (f g : Folding) (parts : List Part) (read : Read) : Type 0 where
  pub hs : List HeadMeaning
  pub bs : List BodyMeaning
  pub heads : g.heads.items ≡ f.heads.items ++ hs
  pub bodies : g.bodies.items ≡ f.bodies.items ++ bs
  pub kept : IsKept parts hs bs read

-- what is left to be taken over behind these items: it stood behind items that say the same of tags
pub record IsLeft (first : List HeadMeaning) (ps : List Part) (hs : List HeadMeaning) (bs : List BodyMeaning) (was : Told) : Type 0 where
  pub before : List HeadMeaning
  pub firm : AreFirm was before before ps hs bs
  pub tags : (q : Wanted) → tags_before before q ≡ tags_before first q

-- of the heads and bodies of a unit, so many are those of the items in front; the others are its own ones
pub record AreOwn (noted : Noted) (hs : List HeadMeaning) (heads_at : ℕ) (bs : List BodyMeaning) (bodies_at : ℕ) : Type 0 where
  pub heads_in : heads_at ≤ length hs
  pub bodies_in : bodies_at ≤ length bs
  pub kept : IsKept noted.parts.items (drop heads_at hs) (drop bodies_at bs) noted.read
