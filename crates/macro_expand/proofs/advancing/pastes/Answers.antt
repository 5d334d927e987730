use Rattle.std.proofs.Common.{rules, ◌≡◌, ◌∷◌, ap, ◌∙◌}
use Rattle.macro_expand.specs.declared.building.Building.{Building}
use Rattle.macro_expand.specs.Ties.Numbers.{reals, real_args, real_building}
use Rattle.macro_expand.specs.Ties.Building.{with_noted}
use Rattle.macro_expand.specs.Tokens.{first_spaced}
use Rattle.macro_expand.proofs.Spending.{joins_keeps}
use Rattle.macro_expand.proofs.SetLemmas.{stands_for, table_stands}
use Rattle.macro_expand.proofs.BuildingLemmas.{paste_joins, pastes_right}
use Rattle.macro_expand.proofs.advancing.pastes.Goals as goal

pub returns-clause-value : goal.returns-clause-value
returns-clause-value c = λ f h.
    let begins : c.args.behind.now ≡ c.in-Some.right.now ∷ c.in-Some.more.now = search rules in
    pastes_right c.args.def.now (real_args f c.args.args.now) c.args.site.now (real_building f c.args.building)
    c.args.token.now c.in-Some.right.now c.in-Some.more.now c.args.behind.now _ begins
    (paste_joins f h.none c.args.def.now c.args.args.now c.args.site.now c.args.building c.joins_operand.new.self
    c.in_ok-operand.operand c.in-Some.right.now c.in-Some.more.now c.in_ok-operand.ensures.value
    (c.in_ok-joins_operand.ensures.value f h))

pub returns-clause-same : goal.returns-clause-same
returns-clause-same c =
    let f = stands_for c.joins_operand.new.sets in
    ap (λ (b : Building). b.progress.left) (c.in_ok-joins_operand.ensures.value f (table_stands c.joins_operand.new.sets))
    ∙ joins_keeps c.args.site.now (first_spaced c.in_ok-operand.operand.space (reals f c.in_ok-operand.operand.tokens))
    (with_noted c.in_ok-operand.operand.spelled (real_building f c.args.building))
