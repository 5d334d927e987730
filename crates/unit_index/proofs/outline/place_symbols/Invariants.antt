use Rattle.std.proofs.Common.{length}
use Rattle.unit_index.specs.Chains.{at_tok}
use Rattle.unit_index.specs.Symbols.{is_symbol}
use Rattle.unit_index.proofs.ChainLemmas.{AreFirst}
use Rattle.unit_index.proofs.outline.place_symbols.Given as goal

abbrev pub invariant-symbols : goal.invariant-symbols
invariant-symbols l = AreFirst is_symbol l.symbols l.rest (at_tok l.first)

abbrev pub decreases-symbols : goal.decreases-symbols
decreases-symbols l = length l.rest
