use Rattle.std.proofs.Common.{◌≡◌, ◌++◌, length, map}
use Rattle.unit_index.specs.Occurrences.{occs_of}
use Rattle.c_session.specs.Ties.Renamings.{views_by}
use Rattle.c_session.proofs.renaming.views_after.Given as goal

abbrev pub invariant-turn : goal.invariant-turn
invariant-turn l = (l.views.items ++ views_by l.kinds l.rest l.others ≡ views_by l.kinds l.units l.anew) × (l.left ≡ map occs_of l.rest)

abbrev pub decreases-turn : goal.decreases-turn
decreases-turn l = length l.rest
