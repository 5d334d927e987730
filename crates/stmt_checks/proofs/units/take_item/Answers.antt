use Rattle.std.proofs.Common.{ap, ◌∙◌, sym, rules}
use Rattle.std.specs.Vec.Iter.{into_iter_items}
use Rattle.elab_state.specs.Tokens.{bare_tokens}
use Rattle.stmt_checks.proofs.TakenOver.{item_head, item_whole, same_name, taken_as}
use Rattle.stmt_checks.proofs.units.take_item.Goals as goal

pub returns-then-are_alike-clause-taken : goal.returns-then-are_alike-clause-taken
returns-then-are_alike-clause-taken c =
    taken_as c.take.result (item_whole c.args.item.now c.args.other.now c.args.tokens.now c.args.others.now c.args.folding.now c.take.new.self (into_iter_items c.args.left.now.heads)
    (into_iter_items c.take.new.left.heads) (into_iter_items c.args.left.now.bodies) (into_iter_items c.take.new.left.bodies)
    (same_name c.args.item.now.name c.args.other.now.name (search rules)) (search rules)) c.take.ensures.taken

pub returns-then-are_alike-2-clause-taken : goal.returns-then-are_alike-2-clause-taken
returns-then-are_alike-2-clause-taken c =
    taken_as c.take_head.result (item_head c.args.item.now c.args.other.now c.args.tokens.now c.args.others.now c.args.folding.now c.take_head.new.self
    (into_iter_items c.args.left.now.heads) (into_iter_items c.take_head.new.left.heads) (into_iter_items c.args.left.now.bodies) (into_iter_items c.take_head.new.left.bodies)
    (same_name c.args.item.now.name c.args.other.now.name (search rules))
    (ap bare_tokens (sym c.head_part.ensures.tokens) ∙ c.are_alike-2.ensures (search rules) ∙ ap bare_tokens c.head_part-2.ensures.tokens)) c.take_head.ensures.taken
