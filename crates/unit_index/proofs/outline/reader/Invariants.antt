use Rattle.std.proofs.Common.{◌≡◌, length}
use Rattle.std.specs.List.{find}
use Rattle.unit_index.specs.Symbols.{reads_it}
use Rattle.unit_index.proofs.outline.reader.Given as goal

abbrev pub invariant-units : goal.invariant-units
invariant-units l = find (reads_it l.path) l.rest ≡ find (reads_it l.path) l.units

abbrev pub decreases-units : goal.decreases-units
decreases-units l = length l.rest
