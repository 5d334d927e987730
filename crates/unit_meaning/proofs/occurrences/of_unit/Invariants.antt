use Rattle.std.proofs.Common.{◌≡◌, ◌++◌, drop, map}
use Rattle.unit_meaning.specs.Occurrences.{of_unit}
use Rattle.unit_meaning.proofs.occurrences.of_unit.Given as goal

abbrev pub invariant-occs : goal.invariant-occs
invariant-occs l = l.out.items ++ of_unit l.sources (map (λ o. o.now) (drop l.occ-index l.occs)) ≡ of_unit l.sources (map (λ o. o.now) l.occs)
