use Rattle.std.proofs.Common.{◌≡◌, ◌++◌}
use Rattle.include_units.proofs.faults.Faults.extend.Given as goal

abbrev pub invariant-loop-fault : goal.invariant-loop-fault
invariant-loop-fault l = l.self ++ l.fault-iterator.rest.items ≡ l.fn.self ++ l.fn.more.items
