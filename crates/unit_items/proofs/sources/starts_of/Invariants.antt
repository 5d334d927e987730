use Rattle.std.proofs.Common.{◌≡◌, ℕ, List, length}
use Rattle.std.specs.Option.{option_or}
use Rattle.unit_items.specs.Maps.{start_at}
use Rattle.unit_items.specs.Sources.{start_of}
use Rattle.unit_items.proofs.sources.starts_of.Given as goal

abbrev pub invariant-turn : goal.invariant-turn
invariant-turn l = (q : List ℕ) → option_or (start_at l.starts q) (start_of l.rest q) ≡ start_of l.items q

abbrev pub decreases-turn : goal.decreases-turn
decreases-turn l = length l.rest
