-- Which entities a token denotes (ISO C11 6.2.1p1), and where all units mention them.
use Rattle.std.specs.Prelude.{Bool, ◌&&◌, List, map, flat_map}
use Rattle.std.specs.List.{filter, list_any}
use Rattle.tok_data.specs.declared.sources.TokId.{TokId}
use Rattle.scope_tables.specs.declared.entities.Anchor.{Anchor}
use Rattle.scope_tables.specs.declared.entities.Occ.{Occ}
use Rattle.scope_tables.specs.Occurrences.{same_anchor, counts, is_at}
use Rattle.unit_index.specs.Known.{Known}

-- it denotes the entity with this anchor there
abbrev pub is_of : Anchor → Occ → Bool
is_of a o = counts o.role && same_anchor o.anchor a

abbrev pub occs_of : Known → List Occ
occs_of u = u.meaning.occs

abbrev pub all_occs : List Known → List Occ
all_occs us = flat_map occs_of us

-- the anchors of the entities that a token denotes, over all units
abbrev pub anchors_of : List Known → TokId → List Anchor
anchors_of us t = map (λ o. o.anchor) (filter (is_at t) (all_occs us))

abbrev pub has_anchor : List Anchor → Occ → Bool
has_anchor list o = counts o.role && list_any (same_anchor o.anchor) list

-- the occurrences of these entities, in all units
abbrev pub shared : List Known → TokId → List Occ
shared us t = filter (has_anchor (anchors_of us t)) (all_occs us)
