-- What the occurrences of a unit say of a token (ISO C11 6.2.1p1).
use Rattle.std.specs.Prelude.{Bool, List, [], ◌∷◌, Option, Some, None, if◌then◌else◌}
use Rattle.std.specs.List.{list_any}
use Rattle.tok_data.specs.declared.sources.TokId.{TokId}
use Rattle.scope_tables.specs.declared.entities.Anchor.{Anchor}
use Rattle.scope_tables.specs.declared.entities.Occ.{Occ}
use Rattle.scope_tables.specs.Occurrences.{same_tok, same_anchor, is_at}

-- the anchors of the entities that the token denotes there, in order
abbrev pub anchors_at : TokId → List Occ → List Anchor
anchors_at t [] = []
anchors_at t (o ∷ os) = if is_at t o then o.anchor ∷ anchors_at t os else anchors_at t os

-- the token denotes the entity with this anchor there
abbrev pub denotes : List Occ → TokId → Anchor → Bool
denotes os t a = list_any (same_anchor a) (anchors_at t os)

abbrev pub in_class : List TokId → TokId → Bool
in_class toks t = list_any (same_tok t) toks

abbrev pub or_later : {B : Type 0} → Option B → Option B → Option B
or_later None later = later
or_later (Some y) later = Some y

-- the first result that is there
abbrev pub first_some : {A B : Type 0} → (A → Option B) → List A → Option B
first_some f [] = None
first_some f (x ∷ xs) = or_later (f x) (first_some f xs)
