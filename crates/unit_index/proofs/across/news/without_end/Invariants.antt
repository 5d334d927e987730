use Rattle.std.proofs.Common.{length, map}
use Rattle.unit_index.specs.Crossing.{seen}
use Rattle.unit_index.specs.Unlike.{AreAhead}
use Rattle.unit_index.proofs.across.news.without_end.Given as goal

abbrev pub invariant-names : goal.invariant-names
invariant-names l = AreAhead (map seen l.replaced.gone.now) (map seen l.replaced.come.now) (map seen l.gone) (map seen l.come)

abbrev pub decreases-names : goal.decreases-names
decreases-names l = length l.gone
