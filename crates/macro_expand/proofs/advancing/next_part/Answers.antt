use Rattle.std.proofs.Common.{rules, ◌≡◌, [], ◌∷◌, false, ap, sym, ◌∙◌}
use Rattle.macro_expand.specs.declared.types.Marked.{Marked}
use Rattle.macro_expand.specs.Ties.Building.{plain_operand, puts}
use Rattle.macro_expand.specs.Ties.Machine.{part_of, operand_part}
use Rattle.macro_expand.specs.Ties.Numbers.{real_building, real_operand}
use Rattle.macro_expand.specs.Tokens.{is_paste, begins_paste, plain}
use Rattle.macro_expand.proofs.BuildingLemmas.{part_puts, plain_put}
use Rattle.macro_expand.proofs.advancing.next_part.Goals as goal

pub returns-then-is_itself-clause-value : goal.returns-then-is_itself-clause-value
returns-then-is_itself-clause-value c = λ f h again.
    let plainly : is_paste c.args.token.now ≡ false = search rules in
    part_puts f h.none again c.args.def.now c.args.args.now c.args.site.now (real_building f c.args.building)
    c.args.token.now c.args.behind.now (plain_operand c.args.token.now) _ plainly
    (sym (c.is_itself.ensures c.if-is_itself.true))
    (plain_put f again c.args.building c.puts_token.new.self c.args.token.now c.space_of-space.result
    (begins_paste c.args.behind.now)
    (c.in_ok-puts_token.ensures.value
    ∙ ap (λ (t : Marked). puts c.space_of-space.result (t ∷ []) c.args.building)
    (c.plain.ensures ∙ ap plain c.in_ok-copy.ensures))
    c.space_of-space.ensures)

pub returns-clause-value : goal.returns-clause-value
returns-clause-value c = λ f h again.
    let plainly : is_paste c.args.token.now ≡ false = search rules in
    part_puts f h.none again c.args.def.now c.args.args.now c.args.site.now (real_building f c.args.building)
    c.args.token.now c.args.behind.now c.in_ok-operand.operand (part_of f again c.in_ok-next.next) plainly
    c.in_ok-operand.ensures.value
    (c.in_ok-next.ensures.value f again
    ∙ ap (operand_part again (real_building f c.args.building) (real_operand f c.in_ok-operand.operand))
    c.begins_paste.ensures)
