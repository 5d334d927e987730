use Rattle.std.proofs.Common.{rules, ◌≡◌, Some, option_map}
use Rattle.earlier_items.proofs.Differing.{on_ok, said_if}
use Rattle.earlier_items.proofs.differences.note_answer.Goals as goal

pub returns-in-Some : goal.returns-in-Some
returns-in-Some c =
    let is : option_map (λ e. e.now) c.args.entity ≡ Some c.in-Some.entity.now = search rules in
    on_ok c.note_entity.result (λ h q. said_if c.args.one.now q c.in-Some.entity.now _ c.args.names.now c.note_entity.new.names is (h q)) c.note_entity.ensures
