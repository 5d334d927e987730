use Rattle.std.proofs.Common.{◌≡◌, ◌++◌, map, length}
use Rattle.unit_index.specs.Codes.{by_token}
use Rattle.unit_index.proofs.codes.token_codes.Given as goal

abbrev pub invariant-occs : goal.invariant-occs
invariant-occs l = l.codes.items ++ map by_token l.rest ≡ map by_token l.occs

abbrev pub decreases-occs : goal.decreases-occs
decreases-occs l = length l.rest
