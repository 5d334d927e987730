use Rattle.std.proofs.Common.{◌≡◌, ◌++◌, length}
use Rattle.unit_index.proofs.shared.listed.Given as goal

abbrev pub invariant-tokens : goal.invariant-tokens
invariant-tokens l = l.list.items ++ l.rest.keys ≡ l.fn.tokens.keys

abbrev pub decreases-tokens : goal.decreases-tokens
decreases-tokens l = length l.rest.keys
