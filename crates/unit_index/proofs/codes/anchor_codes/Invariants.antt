use Rattle.std.proofs.Common.{◌≡◌, ◌++◌, map, length}
use Rattle.unit_index.specs.Codes.{by_anchor}
use Rattle.unit_index.proofs.codes.anchor_codes.Given as goal

abbrev pub invariant-occs : goal.invariant-occs
invariant-occs l = l.codes.items ++ map by_anchor l.rest ≡ map by_anchor l.occs

abbrev pub decreases-occs : goal.decreases-occs
decreases-occs l = length l.rest
