-- What an item means by the answers to its names and by what is said of tags: it means the same wherever these are the same (ISO C11 6.2.1p4, p7).
use Rattle.std.specs.Prelude.{ℕ, ◌≡◌, List, [], ◌∷◌, ◌++◌, true, false, is_some, map, Option, Some, None, option_map}
use Rattle.asking.specs.LookUps.{Ends, LookUp, run_by}
use Rattle.earlier_items.specs.Before.{before, said, tag, tags_before}
use Rattle.earlier_items.specs.Differences.{Asks}
use Rattle.elab_state.specs.Wants.{Told, wants}
use Rattle.elab_state.specs.declared.wants.Wanted.{Wanted}
use Rattle.item_readings.specs.Readings.{IsReader, Reader}
use Rattle.scope_tables.specs.declared.entities.Entity.{Entity}
use Rattle.scope_tables.specs.declared.meanings.BodyMeaning.{BodyMeaning}
use Rattle.scope_tables.specs.declared.meanings.HeadMeaning.{HeadMeaning}
use Rattle.tok_data.specs.declared.tokens.OutToken.{OutToken}
use Rattle.tok_data.specs.declared.tokens.Spelt.TheVariants as place
use Rattle.stmt_checks.specs.Heads.{head_from}
use Rattle.stmt_checks.specs.Meanings.{answers_in, body_from, context}
use Rattle.elab_state.specs.Tokens.{bare_tokens}
use Rattle.item_cut.specs.Items.{body_at}
use Rattle.type_data.specs.declared.names.ItemName.{ItemName}
use Rattle.stmt_checks.specs.Folds.{body_tokens, head_tokens, is_checked}
use Rattle.stmt_checks.specs.Last.{if_any}
use Rattle.stmt_checks.specs.declared.folding.Folding.{Folding}
use Rattle.stmt_checks.specs.declared.kept.Read.{Read}
use Rattle.stmt_checks.specs.declared.parts.BodyPart.{BodyPart}
use Rattle.stmt_checks.specs.declared.parts.Part.{Part}
use Rattle.stmt_checks.specs.declared.parts.Word.{Word}

-- ---- tokens, as an item sees them

abbrev pub token_of : Word → OutToken
token_of w = record { kind = w.kind; spelling = w.spelling; space_before = false; spelt = place.Made; site = record { file = []; at = 0 } }

abbrev pub tokens_of : List Word → List OutToken
tokens_of = map token_of

-- ---- a head and a body behind these items, by no more than what they say of its names and of tags

-- to each question the answer that these items give
abbrev pub all_of : List HeadMeaning → LookUp wants
all_of front q = Some (before front q)

abbrev pub IsHead : List HeadMeaning → ItemName → HeadMeaning → List OutToken → Type 0
IsHead front name h ts =
    (r : Reader) → IsReader r → run_by (tags_before front) (head_from r (context name ts 0) (answers_in (all_of front) (context name ts 0))) ≡ Ends h

abbrev pub IsBody : List HeadMeaning → HeadMeaning → BodyMeaning → List OutToken → ℕ → Type 0
IsBody front h b ts base =
    (r : Reader) → IsReader r →
    run_by (tags_before front) (body_from r (context h.item ts base) h (answers_in (all_of front) (context h.item ts base))) ≡ Ends b

-- ---- what the items in front of all say of its names

abbrev pub AreNamed : Told → List HeadMeaning → List OutToken → Type 0
AreNamed names first ts = (q : Wanted) → Asks ts q → said names q ≡ before first q

-- ---- the items of a unit behind others (`first`), one behind another: the parts with their heads, and the bodies of those that have one

abbrev pub IsFirmHead : Told → List HeadMeaning → List HeadMeaning → HeadMeaning → Part → Type 0
IsFirmHead names first front h p = IsHead front p.name h (tokens_of p.words.items) × AreNamed names first (tokens_of p.words.items)

abbrev pub IsFirmBody : Told → List HeadMeaning → List HeadMeaning → HeadMeaning → BodyPart → BodyMeaning → Type 0
IsFirmBody names first front h p b = IsBody front h b (tokens_of p.words.items) p.base × AreNamed names first (tokens_of p.words.items)

abbrev pub BodyThen : Told → List HeadMeaning → List HeadMeaning → HeadMeaning → Option BodyPart → List BodyMeaning → (List BodyMeaning → Type 0) → Type 0
BodyThen names first front h None bs Behind = Behind bs
BodyThen names first front h (Some p) [] Behind = ⊥
BodyThen names first front h (Some p) (b ∷ bs) Behind = IsFirmBody names first front h p b × Behind bs

abbrev pub AreFirm : Told → List HeadMeaning → List HeadMeaning → List Part → List HeadMeaning → List BodyMeaning → Type 0
AreFirm names first front [] hs bs = Unit {0}
AreFirm names first front (p ∷ ps) [] bs = ⊥
AreFirm names first front (p ∷ ps) (h ∷ hs) bs =
    IsFirmHead names first front h p × BodyThen names first front h p.body bs (AreFirm names first (front ++ h ∷ []) ps hs)

-- ---- what is read of the items in front of all

-- these are the tags that they declare
abbrev pub AreTagged : List HeadMeaning → List Entity → Type 0
AreTagged first tags = (q : Wanted) → tags_before first q ≡ option_map Some (tag q tags)

abbrev pub SaysNothing : Told → Type 0
SaysNothing names = (q : Wanted) → said names q ≡ None

-- of a unit, behind some items: by what these say of its names and of tags
pub record IsKept (parts : List Part) (hs : List HeadMeaning) (bs : List BodyMeaning) (read : Read) : Type 0 where
  pub first : List HeadMeaning
  pub firm : AreFirm read.names first first parts hs bs
  pub tagged : AreTagged first read.tags.items
  pub nothing : read.alone ≡ true → SaysNothing read.names

-- ---- an item more of these tokens and with this name, by no more than that

abbrev pub IsBodyPart : List OutToken → Option BodyPart → Type 0
IsBodyPart ts None = Unit {0}
IsBodyPart ts (Some p) = (tokens_of p.words.items ≡ bare_tokens (body_tokens ts)) × (p.base ≡ body_at ts)

-- the part of an item with this head
pub record IsPart (name : ItemName) (ts : List OutToken) (h : HeadMeaning) (p : Part) : Type 0 where
  pub named : p.name ≡ name
  pub words : tokens_of p.words.items ≡ bare_tokens (head_tokens ts)
  pub body : IsBodyPart ts p.body
  pub checked : is_some p.body ≡ is_checked ts h

abbrev pub IsBodyOf : List OutToken → List HeadMeaning → HeadMeaning → Option BodyMeaning → Type 0
IsBodyOf ts front h None = Unit {0}
IsBodyOf ts front h (Some b) = IsBody front h b (bare_tokens (body_tokens ts)) (body_at ts)

-- what an item means
pub record IsMeant (name : ItemName) (ts : List OutToken) (front : List HeadMeaning) (h : HeadMeaning) (b : Option BodyMeaning) : Type 0 where
  pub head : IsHead front name h (bare_tokens (head_tokens ts))
  pub body : IsBodyOf ts front h b
  pub checked : is_some b ≡ is_checked ts h

-- it was added with this head
pub record Adds (name : ItemName) (ts : List OutToken) (h : HeadMeaning) (f g : Folding) (ps ps' : List Part) : Type 0 where
  pub b : Option BodyMeaning
  pub p : Part
  pub heads : g.heads.items ≡ f.heads.items ++ h ∷ []
  pub bodies : g.bodies.items ≡ f.bodies.items ++ if_any b
  pub parts : ps' ≡ ps ++ p ∷ []
  pub part : IsPart name ts h p
  pub meant : IsMeant name ts f.heads.items h b

pub record AddsOne (name : ItemName) (ts : List OutToken) (f g : Folding) (ps ps' : List Part) : Type 0 where
  pub h : HeadMeaning
  pub adds : Adds name ts h f g ps ps'
