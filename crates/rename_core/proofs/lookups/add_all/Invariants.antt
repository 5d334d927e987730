use Rattle.std.proofs.Common.{◌≡◌, ℕ, List, length}
use Rattle.rename_core.specs.Kept.{at}
use Rattle.rename_core.specs.Occurrences.{or_later}
use Rattle.rename_core.specs.Views.{kinds_of}
use Rattle.rename_core.proofs.lookups.add_all.Given as goal

abbrev pub invariant-kinds : goal.invariant-kinds
invariant-kinds l = (q : List ℕ) → or_later (at l.told q) (kinds_of q l.rest) ≡ or_later (at l.fn.told q) (kinds_of q l.kinds)

abbrev pub decreases-kinds : goal.decreases-kinds
decreases-kinds l = length l.rest
