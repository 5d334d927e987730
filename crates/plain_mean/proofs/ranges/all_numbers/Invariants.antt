use Rattle.std.proofs.Common.{◌≡◌, ℕ, List, ◌++◌, length}
use Rattle.plain_mean.specs.Collected.{numbers_at}
use Rattle.plain_mean.specs.Ranges.{numbers_in}
use Rattle.plain_mean.proofs.ranges.all_numbers.Given as goal

abbrev pub invariant-turn : goal.invariant-turn
invariant-turn l = (q : List ℕ) → numbers_at l.numbers q ++ numbers_in l.rest q ≡ numbers_in l.toks q

abbrev pub decreases-turn : goal.decreases-turn
decreases-turn l = length l.rest
