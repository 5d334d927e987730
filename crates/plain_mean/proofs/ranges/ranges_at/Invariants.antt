use Rattle.std.proofs.Common.{◌≡◌, ◌++◌, length}
use Rattle.std.specs.List.{filter_map}
use Rattle.plain_mean.specs.Ranges.{range_at}
use Rattle.plain_mean.proofs.ranges.ranges_at.Given as goal

abbrev pub invariant-turn : goal.invariant-turn
invariant-turn l = l.ranges.items ++ filter_map (range_at l.places) l.rest ≡ filter_map (range_at l.places) l.numbers

abbrev pub decreases-turn : goal.decreases-turn
decreases-turn l = length l.rest
