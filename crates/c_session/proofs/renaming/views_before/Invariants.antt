use Rattle.std.proofs.Common.{◌≡◌, ◌++◌, length, map, None}
use Rattle.unit_index.specs.Occurrences.{occs_of}
use Rattle.c_session.specs.Ties.Renamings.{view_by}
use Rattle.c_session.proofs.renaming.views_before.Given as goal

abbrev pub invariant-turn : goal.invariant-turn
invariant-turn l = (l.views.items ++ map (λ u. view_by l.kinds u None) l.rest ≡ map (λ u. view_by l.kinds u None) l.units) × (l.left ≡ map occs_of l.rest)

abbrev pub decreases-turn : goal.decreases-turn
decreases-turn l = length l.rest
