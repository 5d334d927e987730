use Rattle.std.proofs.Common.{◌≡◌, length}
use Rattle.std.specs.Prelude.{bytes_eq}
use Rattle.std.specs.List.{list_any}
use Rattle.unit_index.specs.Symbols.{reads_it}
use Rattle.unit_index.proofs.outline.reads.Given as goal

abbrev pub invariant-paths : goal.invariant-paths
invariant-paths l = list_any (λ r. bytes_eq r l.path) l.rest ≡ reads_it l.path l.unit

abbrev pub decreases-paths : goal.decreases-paths
decreases-paths l = length l.rest
