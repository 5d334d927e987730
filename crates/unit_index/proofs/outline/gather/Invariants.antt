use Rattle.std.proofs.Common.{◌≡◌, ◌++◌, length}
use Rattle.std.specs.List.{find}
use Rattle.unit_index.specs.Symbols.{gathered, is_symbol}
use Rattle.unit_index.proofs.outline.gather.Given as goal

abbrev pub invariant-tokens : goal.invariant-tokens
invariant-tokens l = l.out.items ++ gathered (λ t. find (is_symbol t) l.symbols) l.rest ≡ gathered (λ t. find (is_symbol t) l.symbols) l.tokens

abbrev pub decreases-tokens : goal.decreases-tokens
decreases-tokens l = length l.rest
