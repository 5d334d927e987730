use Rattle.std.proofs.Common.{length, map}
use Rattle.unit_index.specs.Crossing.{seen}
use Rattle.unit_index.specs.Unlike.{AreBehind}
use Rattle.unit_index.proofs.across.news.behind_front.Given as goal

abbrev pub invariant-names : goal.invariant-names
invariant-names l = AreBehind (map seen l.before) (map seen l.now) (map seen l.gone) (map seen l.come)

abbrev pub decreases-names : goal.decreases-names
decreases-names l = length l.gone
