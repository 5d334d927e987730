use Rattle.std.proofs.Common.{◌≡◌, ℕ, List, length}
use Rattle.std.specs.Option.{option_or}
use Rattle.unit_meaning.specs.Kept.{asks, at}
use Rattle.unit_meaning.specs.Exports.{first_stated}
use Rattle.unit_meaning.proofs.statements.first_stated.Given as goal

abbrev pub invariant-heads : goal.invariant-heads
invariant-heads l = (q : List ℕ) → option_or (at l.map q) (first_stated (asks l.asked) q l.rest) ≡ first_stated (asks l.asked) q l.heads

abbrev pub decreases-heads : goal.decreases-heads
decreases-heads l = length l.rest
