-- What a unit means (ISO C11 5.1.1.1, 6.9), by what the heads and bodies of its items mean.
use Rattle.std.specs.Prelude.{List, [], ◌++◌}
use Rattle.scope_tables.specs.declared.meanings.BodyMeaning.{BodyMeaning}
use Rattle.scope_tables.specs.declared.meanings.HeadMeaning.{HeadMeaning}
use Rattle.scope_tables.specs.declared.units.Exports.{Exports}
use Rattle.scope_tables.specs.declared.units.UnitMeaning.{UnitMeaning}
use Rattle.tok_data.specs.declared.faults.ShownFault.{ShownFault}
use Rattle.unit_ends.specs.Ends.{ends}
use Rattle.unit_items.specs.Units.{Unit}
use Rattle.unit_meaning.specs.Entities.{entities}
use Rattle.unit_meaning.specs.Exports.{names}
use Rattle.unit_meaning.specs.Faults as shown
use Rattle.unit_meaning.specs.Occurrences.{in_items, of_unit}
use Rattle.unit_meaning.specs.Sites.{Entry, all_reached}
use Rattle.unit_meaning.specs.Symbols.{symbols}
use Rattle.unit_meaning.specs.Tags.{tags}

-- a unit with the library texts that were reached, and what its items mean: their heads and their bodies, each list in the order of the items
pub record Elaborated : Type 0 where
  pub unit : Unit
  pub reached : List Entry
  pub heads : List HeadMeaning
  pub bodies : List BodyMeaning

abbrev pub showing : Elaborated → shown.Showing
showing e = record { unit = e.unit; reached = e.reached; tags = tags e.heads e.bodies }

-- items after items, and then the end of the unit
unfoldable pub faults : Elaborated → List ShownFault
faults e = shown.of_items (showing e) e.unit.items e.heads e.bodies ++ shown.of_pairs (showing e) (ends e.heads e.bodies)

unfoldable pub exports : Elaborated → Exports
exports e = record {
  names = names e.unit e.reached (in_items e.unit.items e.heads e.bodies) e.heads (entities e.unit e.heads e.bodies);
  tags = tags e.heads e.bodies;
}

unfoldable pub meant : Elaborated → UnitMeaning
meant e = record {
  faults = faults e;
  occs = of_unit e.unit (in_items e.unit.items e.heads e.bodies);
  entities = entities e.unit e.heads e.bodies;
  symbols = symbols e.unit e.heads;
  exports = exports e;
}

-- the same with the texts that were entered
abbrev pub meaning : Unit → List Entry → List HeadMeaning → List BodyMeaning → UnitMeaning
meaning u entered hs bs = meant (record { unit = u; reached = all_reached [] entered; heads = hs; bodies = bs })
