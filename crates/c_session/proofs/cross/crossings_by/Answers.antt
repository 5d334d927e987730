use Rattle.std.proofs.Common.{◌≡◌, map, ap, sym, subst, ◌∙◌}
use Rattle.unit_index.specs.Crossing.{all_crossings, sight}
use Rattle.unit_index.specs.Matching.{matched}
use Rattle.unit_index.specs.News.{AreNews}
use Rattle.c_session.specs.Units.{crossed, exported, sights}
use Rattle.c_session.proofs.Seeing.{map_twice}
use Rattle.c_session.proofs.cross.crossings_by.Goals as goal

pub returns-then-is_none : goal.returns-then-is_none
unfolding crossed
returns-then-is_none c = λ were.
    were.crossings ∙ ap (all_crossings matched) (c.is_none.ensures c.if-is_none.true were.saw (sights c.args.units.now) were.are ∙ sym (map_twice sight exported c.args.units.now))

pub returns : goal.returns
unfolding crossed
returns c = λ were.
    let units : c.as_slice.result.now ≡ map exported c.args.units.now = c.as_slice.ensures.value ∙ c.in_ok-exports.ensures in
    let sees : sights c.args.units.now ≡ map sight c.as_slice.result.now = sym (ap (map sight) units ∙ map_twice sight exported c.args.units.now) in
    c.in_ok-renewed.ensures.value were.saw (subst (λ ts. AreNews were.saw ts c.args.news.now) sees were.are) (c.as_slice-2.ensures.value ∙ were.crossings)
    ∙ ap (λ es. all_crossings matched (map sight es)) units
