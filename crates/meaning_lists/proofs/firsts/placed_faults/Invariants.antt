use Rattle.std.proofs.Common.{◌≡◌, ◌++◌, map}
use Rattle.meaning_lists.specs.Firsts.{placed_fault}
use Rattle.meaning_lists.proofs.firsts.placed_faults.Given as goal

abbrev pub invariant-faults : goal.invariant-faults
invariant-faults l = l.out.items ++ map placed_fault l.fault-iterator.rest.items ≡ map placed_fault l.fn.faults.items
