-- How the code gets to a meaning: a list is filled after the other.
use Rattle.std.specs.Prelude.{ℕ, List, [], false}
use Rattle.scope_tables.specs.declared.entities.Anchor.{Anchor}
use Rattle.scope_tables.specs.declared.meanings.BodyMeaning.{BodyMeaning}
use Rattle.scope_tables.specs.declared.meanings.HeadMeaning.{HeadMeaning}
use Rattle.type_data.specs.declared.names.ItemName.{ItemName}
use Rattle.meaning_lists.specs.declared.found.Found.{Found}
use Rattle.meaning_lists.specs.Found.{bindings_in_order, definitions, each_once, entities_in_order, faults_in_order, occs_in_order, places, symbols_in_order}

abbrev pub none_of : {A : Type 0} → List A
none_of = []

-- ---- a head

abbrev pub empty_head : ItemName → HeadMeaning
empty_head item = record { item = item; declared = []; params = []; entities = []; occs = []; faults = []; defines = []; used = []; stated = []; symbols = []; inline = false }

abbrev pub with_places : List (Anchor × ℕ) → Found → HeadMeaning → HeadMeaning
with_places ps f m = record m {
  declared = bindings_in_order ps f.declared;
  params = bindings_in_order ps f.params;
  entities = entities_in_order ps f.entities;
}

abbrev pub without_names : Found → Found
without_names f = record f { declared = []; params = []; entities = [] }

abbrev pub with_lists : Found → HeadMeaning → HeadMeaning
with_lists f m = record m {
  faults = faults_in_order f.faults;
  defines = definitions f.stated;
  used = each_once f.used;
  stated = f.stated;
  symbols = symbols_in_order f.symbols;
  inline = f.inline;
}

abbrev pub with_occs : Found → HeadMeaning → HeadMeaning
with_occs f m = record m { occs = occs_in_order f.occs }

abbrev pub filled_head : Found → HeadMeaning → HeadMeaning
filled_head f m = with_lists f (with_places (places f) f (with_occs f m))

-- ---- a body

abbrev pub empty_body : ItemName → BodyMeaning
empty_body item = record { item = item; entities = []; occs = []; faults = []; used = [] }

abbrev pub filled_body : Found → BodyMeaning → BodyMeaning
filled_body f m = record m {
  occs = occs_in_order f.occs;
  entities = entities_in_order (places f) f.entities;
  faults = faults_in_order f.faults;
  used = each_once f.used;
}
