use Rattle.std.proofs.Common.{rules, ◌≡◌, Bool, false, ◌&&◌, not, ap, ◌∙◌}
use Rattle.macro_expand.specs.declared.building.Building.{Building}
use Rattle.macro_expand.specs.Ties.Building.{puts, space_of}
use Rattle.macro_expand.proofs.BuildingLemmas.{operand_put}
use Rattle.macro_expand.proofs.advancing.puts_operand.Goals as goal

pub returns-clause-value : goal.returns-clause-value
returns-clause-value c = λ f again.
    let plainly : (c.args.operand.given && not c.args.raw) ≡ false = search rules in
    operand_put f again c.args.building c.puts.new.self c.args.operand c.args.raw plainly
    (c.in_ok-puts.ensures.value
    ∙ ap (λ (s : Bool). puts s c.args.operand.tokens c.notes.new.self) c.space_of-space.ensures
    ∙ ap (λ (b : Building). puts (space_of c.args.building c.args.operand.space) c.args.operand.tokens b)
    c.in_ok-notes.ensures)
