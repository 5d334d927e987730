use Rattle.std.proofs.Common.{◌≡◌, ◌++◌, map}
use Rattle.meaning_lists.specs.Firsts.{placed_binding}
use Rattle.meaning_lists.proofs.firsts.placed_bindings.Given as goal

abbrev pub invariant-bindings : goal.invariant-bindings
invariant-bindings l = l.out.items ++ map (placed_binding l.firsts) l.binding-iterator.rest.items ≡ map (placed_binding l.fn.firsts) l.fn.bindings.items
