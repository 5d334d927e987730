use Rattle.plain_mean.proofs.Followed.{held_units}
use Rattle.plain_mean.proofs.laws.units_follow.Goals as goal

pub returns : goal.returns
returns c = λ t t' conf held units. held_units c.paths_are_sets.ensures.members t t' held conf units
