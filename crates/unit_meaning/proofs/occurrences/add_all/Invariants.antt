use Rattle.std.proofs.Common.{◌≡◌, ◌++◌, length, map}
use Rattle.unit_meaning.proofs.occurrences.add_all.Given as goal

abbrev pub invariant-occs : goal.invariant-occs
invariant-occs l = map (λ o. o.now) l.out.items ++ l.rest ≡ map (λ o. o.now) l.fn.out.items ++ l.occs

abbrev pub decreases-occs : goal.decreases-occs
decreases-occs l = length l.rest
