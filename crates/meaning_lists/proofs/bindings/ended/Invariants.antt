use Rattle.std.proofs.Common.{◌≡◌}
use Rattle.meaning_lists.specs.Bindings.{none_ended, with_all}
use Rattle.meaning_lists.proofs.bindings.ended.Given as goal

abbrev pub invariant-bindings : goal.invariant-bindings
invariant-bindings l = with_all l.ends l.binding-iterator.rest.items ≡ with_all none_ended l.fn.bindings.items
