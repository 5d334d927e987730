use Rattle.std.proofs.Common.{◌≡◌, map, ap, sym, ◌∙◌}
use Rattle.unit_index.specs.Crossing.{all_crossings, sight}
use Rattle.unit_index.specs.Cross.{cross}
use Rattle.unit_index.specs.Matching.{matched}
use Rattle.c_session.specs.Units.{cross_faults, crossed, exported}
use Rattle.c_session.proofs.cross.cross_faults.Goals as goal

pub returns : goal.returns
unfolding crossed cross_faults
returns c = λ are.
    let units : c.as_slice.result.now ≡ map exported c.args.units.now = c.as_slice.ensures.value ∙ c.in_ok-exports.ensures in
    c.in_ok-faults.ensures matched (are ∙ ap (λ es. all_crossings matched (map sight es)) (sym units)) ∙ ap (λ es. map (λ x. x.fault) (cross matched es)) units
