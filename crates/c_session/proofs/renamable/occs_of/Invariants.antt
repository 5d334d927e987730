use Rattle.std.proofs.Common.{◌≡◌, ◌++◌, length, map}
use Rattle.unit_index.specs.Occurrences.{occs_of}
use Rattle.c_session.proofs.renamable.occs_of.Given as goal

abbrev pub invariant-turn : goal.invariant-turn
invariant-turn l = l.all.items ++ map occs_of l.rest ≡ map occs_of l.units

abbrev pub decreases-turn : goal.decreases-turn
decreases-turn l = length l.rest
