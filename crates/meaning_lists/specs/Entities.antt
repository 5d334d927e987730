-- Entities as they stand at the end: of each anchor the last one.
use Rattle.std.specs.Prelude.{Bool, true, not, ◌&&◌, List, [], ◌∷◌, map}
use Rattle.std.specs.List.{list_any}
use Rattle.indexmap.specs.IndexMap.{insert_entry}
use Rattle.scope_tables.specs.declared.entities.Anchor.{Anchor}
use Rattle.scope_tables.specs.declared.entities.Entity.{Entity}
use Rattle.scope_tables.specs.Occurrences.{same_anchor}

abbrev pub none_last : List (Anchor × Entity)
none_last = []

abbrev pub with_anchor : List (Anchor × Entity) → Anchor → Entity → List (Anchor × Entity)
with_anchor ps a e = insert_entry same_anchor ps a e

abbrev pub with_entity : List (Anchor × Entity) → Entity → List (Anchor × Entity)
with_entity ps e = with_anchor ps e.anchor e

abbrev pub with_all : List (Anchor × Entity) → List Entity → List (Anchor × Entity)
with_all ps [] = ps
with_all ps (e ∷ es) = with_all (with_entity ps e) es

abbrev pub last_entities : List Entity → List Entity
last_entities es = map (λ p. p.1) (with_all none_last es)

-- no anchor comes twice
abbrev pub are_apart : List Entity → Bool
are_apart [] = true
are_apart (e ∷ es) = not (list_any (λ o. same_anchor o.anchor e.anchor) es) && are_apart es
