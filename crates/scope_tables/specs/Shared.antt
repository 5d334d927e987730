-- Entities of an item that the units which have the item share.
use Rattle.std.specs.Prelude.{List, [], ◌∷◌, Option, Some, None, false}
use Rattle.type_data.specs.Types.{Bad_type}
use Rattle.scope_tables.specs.declared.entities.Anchor.{Anchor}
use Rattle.scope_tables.specs.declared.entities.Entity.{Entity}
use Rattle.scope_tables.specs.declared.entities.EntityKind.TheVariants as kind
use Rattle.scope_tables.specs.declared.entities.Life.TheVariants as life
use Rattle.scope_tables.specs.declared.entities.Linkage.TheVariants as linkage

abbrev pub or_none : {A : Type 0} → Option (List A) → List A
or_none None = []
or_none (Some xs) = xs

-- an entity under another anchor
abbrev pub anchored : Entity → Anchor → Entity
anchored e a = record e { anchor = a }

-- nothing is said of it; no unit has it
abbrev pub nothing_said : Anchor → Entity
nothing_said a = record {
  name = [];
  kind = kind.Label;
  ty = Bad_type;
  qual = record { is_const = false; is_restrict = false; is_volatile = false };
  linkage = linkage.None;
  life = life.Without;
  value = None;
  anchor = a;
}

-- the first of them under another anchor
abbrev pub first_as : Anchor → List Entity → Entity
first_as a [] = nothing_said a
first_as a (e ∷ es) = anchored e a
