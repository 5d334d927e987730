use Rattle.std.proofs.Common.{◌≡◌, ◌+◌, map, length}
use Rattle.serde_json.specs.View.{view, items_of}
use Rattle.project_conf.specs.Database.{units_from}
use Rattle.project_conf.proofs.EntryLemmas.{behind}
use Rattle.project_conf.proofs.database.units_from.Given as goal

abbrev pub invariant-loop-entry : goal.invariant-loop-entry
invariant-loop-entry l =
    (behind l.units.items (units_from l.root l.number (items_of (map view l.rest))) ≡ units_from l.root 0 (items_of (map view l.entries)))
    × (l.number + length l.rest ≡ length l.entries)
    × (l.from ≡ l.root)

abbrev pub decreases-loop-entry : goal.decreases-loop-entry
decreases-loop-entry l = length l.rest
