use Rattle.std.proofs.Common.{◌≡◌, ◌++◌, length}
use Rattle.unit_index.specs.Renewed.{left, taken}
use Rattle.unit_index.proofs.across.renewing.take_over.Given as goal

abbrev pub invariant-kept : goal.invariant-kept
invariant-kept l = (l.out.items ++ taken l.before l.nth l.rest ≡ l.fn.out.items ++ taken l.before l.nth l.kept) × (left l.before l.rest ≡ left l.before l.kept)

abbrev pub decreases-kept : goal.decreases-kept
decreases-kept l = length l.rest
