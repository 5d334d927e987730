-- What was written and what is left make the whole.
use Rattle.std.proofs.Common.{◌≡◌, ◌++◌, string_bytes, length, codes}
use Rattle.fault_texts.specs.Printed.{joined, behind_each}
use Rattle.fault_texts.proofs.printing.push_names.Given as goal

abbrev pub invariant-turn : goal.invariant-turn
invariant-turn l = string_bytes l.out ++ behind_each (codes " ") l.rest ≡ string_bytes l.fn.out ++ joined (codes " ") l.fn.names

abbrev pub decreases-turn : goal.decreases-turn
decreases-turn l = length l.rest
