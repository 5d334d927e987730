use Rattle.std.proofs.Common.{◌≡◌, ◌++◌, ℕ, List, length}
use Rattle.std.specs.List.{filter}
use Rattle.unit_index.specs.Groups.{in_group, is_in}
use Rattle.unit_index.proofs.groups.grouped.Given as goal

abbrev pub invariant-tokens : goal.invariant-tokens
invariant-tokens l = (f : List ℕ) → in_group l.groups f ++ filter (is_in f) l.rest ≡ filter (is_in f) l.tokens

abbrev pub decreases-tokens : goal.decreases-tokens
decreases-tokens l = length l.rest
