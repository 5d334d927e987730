use Rattle.std.proofs.Common.{◌≡◌, length}
use Rattle.item_cut.specs.Labels.{label}
use Rattle.item_cut.proofs.labels.label.Given as goal

abbrev pub invariant-loop-token : goal.invariant-loop-token
invariant-loop-token l = label l.rest ≡ label l.item

abbrev pub decreases-loop-token : goal.decreases-loop-token
decreases-loop-token l = length l.rest
