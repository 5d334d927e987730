use Rattle.std.proofs.Common.{◌≡◌, ◌++◌, length}
use Rattle.std.specs.List.{filter}
use Rattle.unit_index.specs.Introduced.{is_left}
use Rattle.unit_index.specs.Sets.{has_tok}
use Rattle.unit_index.proofs.introduced.all_left.Given as goal

abbrev pub invariant-tokens : goal.invariant-tokens
invariant-tokens l = l.out.items ++ filter (is_left (has_tok l.introduced)) l.rest ≡ filter (is_left (has_tok l.introduced)) l.tokens

abbrev pub decreases-tokens : goal.decreases-tokens
decreases-tokens l = length l.rest
