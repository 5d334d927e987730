use Rattle.std.proofs.Common.{ap, map, ◌∙◌}
use Rattle.unit_index.proofs.PlacingLemmas.{placed_is}
use Rattle.unit_index.proofs.across.placing.faults_placed.Goals as goal

pub returns : goal.returns
returns c = λ test are. c.in_ok-faults.ensures ∙ ap (map (λ f. f.fault)) (c.in_ok-placed.ensures ∙ placed_is test c.args.units.now c.args.crossings.now are)
