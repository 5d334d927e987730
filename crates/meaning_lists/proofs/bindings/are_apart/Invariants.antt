use Rattle.std.proofs.Common.{◌≡◌, length}
use Rattle.meaning_lists.specs.Bindings.{are_apart}
use Rattle.meaning_lists.proofs.bindings.are_apart.Given as goal

abbrev pub invariant-bindings : goal.invariant-bindings
invariant-bindings l = are_apart l.rest ≡ are_apart l.fn.bindings

abbrev pub decreases-bindings : goal.decreases-bindings
decreases-bindings l = length l.rest
