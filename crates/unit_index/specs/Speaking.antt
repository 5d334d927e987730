-- What a token denotes in the first unit in which it denotes an entity.
use Rattle.std.specs.Prelude.{Bool, List, [], ◌∷◌, Option, Some, None, option_map}
use Rattle.std.specs.List.{find}
use Rattle.tok_data.specs.declared.sources.TokId.{TokId}
use Rattle.scope_tables.specs.declared.entities.Anchor.{Anchor}
use Rattle.scope_tables.specs.declared.entities.Entity.{Entity}
use Rattle.scope_tables.specs.declared.entities.Occ.{Occ}
use Rattle.unit_index.specs.Known.{Known}
use Rattle.scope_tables.specs.Occurrences.{is_at, same_anchor}
use Rattle.unit_index.specs.Occurrences.{occs_of}

-- the entity has this anchor
abbrev pub is_named : Anchor → Entity → Bool
is_named a e = same_anchor e.anchor a

-- a unit, and an entity of it
pub record Speech : Type 0 where
  pub unit : Known
  pub entity : Entity

abbrev pub entity_at : Anchor → Known → Option Speech
entity_at a u = option_map (λ e. record { unit = u; entity = e }) (find (is_named a) u.meaning.entities)

-- the unit, where the token's first occurrence in it is this one; else what the later units say
abbrev pub or_later : Known → Option Occ → Option Speech → Option Speech
or_later u (Some o) later = entity_at o.anchor u
or_later u None later = later

abbrev pub speaking : List Known → TokId → Option Speech
speaking [] t = None
speaking (u ∷ us) t = or_later u (find (is_at t) (occs_of u)) (speaking us t)
