use Rattle.std.proofs.Common.{◌≡◌, ◌++◌, map}
use Rattle.meaning_lists.specs.Firsts.{placed_symbol}
use Rattle.meaning_lists.proofs.firsts.placed_symbols.Given as goal

abbrev pub invariant-symbols : goal.invariant-symbols
invariant-symbols l = l.out.items ++ map placed_symbol l.symbol-iterator.rest.items ≡ map placed_symbol l.fn.symbols.items
