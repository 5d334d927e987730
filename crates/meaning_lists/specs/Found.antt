-- What a head or a body means, of what was found in it (ISO C11 6.2.1, 6.9): what names denote and what entities are at the end, each list in the
-- order of first tokens.
use Rattle.std.specs.Prelude.{ℕ, List, map}
use Rattle.scope_tables.specs.declared.bindings.Binding.{Binding}
use Rattle.scope_tables.specs.declared.entities.Anchor.{Anchor}
use Rattle.scope_tables.specs.declared.entities.Entity.{Entity}
use Rattle.scope_tables.specs.declared.entities.Occ.{Occ}
use Rattle.scope_tables.specs.declared.meanings.BodyMeaning.{BodyMeaning}
use Rattle.scope_tables.specs.declared.meanings.HeadMeaning.{HeadMeaning}
use Rattle.scope_tables.specs.declared.meanings.HeadSymbol.{HeadSymbol}
use Rattle.scope_tables.specs.declared.meanings.Stated.{Stated}
use Rattle.type_data.specs.declared.judged.Fault.{Fault}
use Rattle.type_data.specs.declared.names.ItemName.{ItemName}
use Rattle.meaning_lists.specs.declared.found.Found.{Found}
use Rattle.meaning_lists.specs.Bindings.{last_bindings}
use Rattle.meaning_lists.specs.Entities.{last_entities}
use Rattle.meaning_lists.specs.Firsts.{firsts, placed_binding, placed_entity, placed_fault, placed_occ, placed_symbol}
use Rattle.meaning_lists.specs.Names.{defined, once}
use Rattle.meaning_lists.specs.Order.{by_place}

unfoldable pub occs_in_order : List Occ → List Occ
occs_in_order os = by_place (map placed_occ os)

unfoldable pub faults_in_order : List Fault → List Fault
faults_in_order fs = by_place (map placed_fault fs)

unfoldable pub symbols_in_order : List HeadSymbol → List HeadSymbol
symbols_in_order ss = by_place (map placed_symbol ss)

unfoldable pub entities_in_order : List (Anchor × ℕ) → List Entity → List Entity
entities_in_order ps es = by_place (map (placed_entity ps) (last_entities es))

unfoldable pub bindings_in_order : List (Anchor × ℕ) → List Binding → List Binding
bindings_in_order ps bs = by_place (map (placed_binding ps) (last_bindings bs))

unfoldable pub each_once : List (List ℕ) → List (List ℕ)
each_once ns = once ns

unfoldable pub definitions : List Stated → List (List ℕ)
definitions ss = defined ss

-- the first token of each anchor
abbrev pub places : Found → List (Anchor × ℕ)
places f = firsts (occs_in_order f.occs)

abbrev pub head_of : ItemName → Found → HeadMeaning
head_of item f = record {
  item = item;
  declared = bindings_in_order (places f) f.declared;
  params = bindings_in_order (places f) f.params;
  entities = entities_in_order (places f) f.entities;
  occs = occs_in_order f.occs;
  faults = faults_in_order f.faults;
  defines = definitions f.stated;
  used = each_once f.used;
  stated = f.stated;
  symbols = symbols_in_order f.symbols;
  inline = f.inline;
}

abbrev pub body_of : ItemName → Found → BodyMeaning
body_of item f = record {
  item = item;
  entities = entities_in_order (places f) f.entities;
  occs = occs_in_order f.occs;
  faults = faults_in_order f.faults;
  used = each_once f.used;
}
