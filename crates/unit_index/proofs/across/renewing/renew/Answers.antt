use Rattle.std.proofs.Common.{rules, ◌≡◌, ◌++◌, ◌+◌, true, false, ap, ◌∙◌}
use Rattle.unit_index.specs.Exported.{at}
use Rattle.unit_index.specs.News.{has}
use Rattle.unit_index.specs.Renewed as spec
use Rattle.unit_index.proofs.ShiftLemmas.{anew_more, kept_more}
use Rattle.unit_index.proofs.across.renewing.renew.Goals as goal

pub returns-then-has : goal.returns-then-has
returns-then-has c = λ test is more.
    let on : true ≡ has c.args.names.now c.args.export.now.name = search rules in
    anew_more _ _ _ _ _ _ on (c.in_ok-judge.ensures test is (has c.args.names.now))

pub returns : goal.returns
returns c = λ test is more.
    let off : false ≡ has c.args.names.now c.args.export.now.name = search rules in
    ap (λ l. c.take_over.new.out.items ++ spec.renewed test (has c.args.names.now) (at c.args.firsts.now.declared) (at c.args.firsts.now.defined) c.args.unit.now.path c.args.unit.now.exports.tags c.args.shift (c.args.nth + 1) more l)
    (c.in_ok-left.ensures.left ∙ ap (λ n. spec.left n c.args.kept.now) c.number_before.ensures)
    ∙ kept_more _ _ _ _ _ _ off (c.in_ok-left.ensures.taken ∙ ap (λ n. c.args.out.now.items ++ spec.taken n c.args.nth c.args.kept.now) c.number_before.ensures)
