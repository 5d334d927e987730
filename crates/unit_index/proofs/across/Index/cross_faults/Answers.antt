use Rattle.std.proofs.Common.{rules, ◌≡◌, ◌∙◌}
use Rattle.unit_index.specs.Crossing.{all_placed}
use Rattle.unit_index.specs.Matching.{matched}
use Rattle.unit_index.proofs.PlacingLemmas.{placed_is}
use Rattle.unit_index.proofs.across.Index.cross_faults.Goals as goal

pub returns-clause-meant : goal.returns-clause-meant
returns-clause-meant c = λ test exact.
    let units : c.units.result.now ≡ c.args.self.now = search rules in
    let lists : c.as_slice.result.now ≡ c.in_ok-all.all.items = search rules in
    c.in_ok-faults.ensures ∙ (λ i. all_placed (units i) (lists i)) ∙ placed_is test c.args.self.now c.in_ok-all.all.items (c.in_ok-all.ensures.meant test exact)

pub returns-clause-value : goal.returns-clause-value
returns-clause-value c =
    let units : c.units.result.now ≡ c.args.self.now = search rules in
    let lists : c.as_slice.result.now ≡ c.in_ok-all.all.items = search rules in
    c.in_ok-faults.ensures ∙ (λ i. all_placed (units i) (lists i)) ∙ placed_is matched c.args.self.now c.in_ok-all.all.items c.in_ok-all.ensures.value
