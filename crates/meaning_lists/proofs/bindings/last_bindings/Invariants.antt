use Rattle.std.proofs.Common.{◌≡◌, ◌++◌, map}
use Rattle.meaning_lists.specs.Bindings.{binding_of, last_bindings}
use Rattle.meaning_lists.proofs.bindings.last_bindings.Given as goal

abbrev pub invariant-ends : goal.invariant-ends
invariant-ends l = l.out.items ++ map binding_of l.pair-iterator ≡ last_bindings l.fn.bindings.items
