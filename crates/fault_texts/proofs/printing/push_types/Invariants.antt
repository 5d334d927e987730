-- What was written and what is left make the whole.
use Rattle.std.proofs.Common.{◌≡◌, ◌++◌, string_bytes, length, map}
use Rattle.fault_texts.specs.Printed.{joined, behind_each, shown}
use Rattle.fault_texts.proofs.printing.push_types.Given as goal

abbrev pub invariant-turn : goal.invariant-turn
invariant-turn l = string_bytes l.out ++ behind_each l.fn.between (map (shown l.fn.tags) l.rest) ≡ string_bytes l.fn.out ++ joined l.fn.between (map (shown l.fn.tags) l.fn.types)

abbrev pub decreases-turn : goal.decreases-turn
decreases-turn l = length l.rest
