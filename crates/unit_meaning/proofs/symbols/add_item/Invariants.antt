use Rattle.std.proofs.Common.{◌≡◌, ◌++◌, length}
use Rattle.unit_meaning.specs.Symbols.{of_item}
use Rattle.unit_meaning.proofs.symbols.add_item.Given as goal

abbrev pub invariant-declared : goal.invariant-declared
invariant-declared l = l.out.items ++ of_item l.sources l.item l.rest ≡ l.fn.out.items ++ of_item l.sources l.item l.declared

abbrev pub decreases-declared : goal.decreases-declared
decreases-declared l = length l.rest
