-- Where things stand: an occurrence, a fault and a symbol on their tokens, and an entity on the first token that denotes it.
use Rattle.std.specs.Prelude.{ℕ, List, [], ◌∷◌, Option, Some, None, is_some, if◌then◌else◌}
use Rattle.std.specs.Map.{lookup}
use Rattle.indexmap.specs.IndexMap.{insert_entry}
use Rattle.scope_tables.specs.declared.bindings.Binding.{Binding}
use Rattle.scope_tables.specs.declared.entities.Anchor.{Anchor}
use Rattle.scope_tables.specs.declared.entities.Anchor.TheVariants as anchor
use Rattle.scope_tables.specs.declared.entities.Entity.{Entity}
use Rattle.scope_tables.specs.declared.entities.Occ.{Occ}
use Rattle.scope_tables.specs.declared.meanings.HeadSymbol.{HeadSymbol}
use Rattle.scope_tables.specs.Occurrences.{same_anchor}
use Rattle.type_data.specs.declared.judged.Fault.{Fault}

abbrev pub none_first : List (Anchor × ℕ)
none_first = []

-- the first one stays
abbrev pub with_occ : List (Anchor × ℕ) → Occ → List (Anchor × ℕ)
with_occ ps o = if is_some (lookup (same_anchor o.anchor) ps) then ps else insert_entry same_anchor ps o.anchor o.tok.at

abbrev pub with_all : List (Anchor × ℕ) → List Occ → List (Anchor × ℕ)
with_all ps [] = ps
with_all ps (o ∷ os) = with_all (with_occ ps o) os

-- by occurrences in the order of tokens
abbrev pub firsts : List Occ → List (Anchor × ℕ)
firsts os = with_all none_first os

-- a tag without a name has no occurrence: it is told by its keyword
abbrev pub own_place : Anchor → ℕ
own_place (anchor.Local tok) = tok.at
own_place (anchor.Made tok name) = tok.at
own_place (anchor.External name) = 0
own_place (anchor.Macro name) = 0

abbrev pub or_own : Option ℕ → Anchor → ℕ
or_own (Some n) a = n
or_own None a = own_place a

abbrev pub first_of : List (Anchor × ℕ) → Anchor → ℕ
first_of ps a = or_own (lookup (same_anchor a) ps) a

abbrev pub placed_occ : Occ → ℕ × Occ
placed_occ o = (o.tok.at, o)

abbrev pub placed_fault : Fault → ℕ × Fault
placed_fault f = (f.at, f)

abbrev pub placed_symbol : HeadSymbol → ℕ × HeadSymbol
placed_symbol s = (s.at, s)

abbrev pub placed_entity : List (Anchor × ℕ) → Entity → ℕ × Entity
placed_entity ps e = (first_of ps e.anchor, e)

abbrev pub placed_binding : List (Anchor × ℕ) → Binding → ℕ × Binding
placed_binding ps b = (first_of ps b.entity.anchor, b)
