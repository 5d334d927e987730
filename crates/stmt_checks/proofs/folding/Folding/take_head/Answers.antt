use Rattle.std.proofs.Common.{◌∙◌}
use Rattle.std.specs.Vec.Iter.{into_iter_items}
use Rattle.stmt_checks.proofs.TakenOver.{takes_head}
use Rattle.stmt_checks.proofs.folding.Folding.take_head.Goals as goal

pub returns-in-Ok-add_head-clause-taken : goal.returns-in-Ok-add_head-clause-taken
returns-in-Ok-add_head-clause-taken c = λ e.
    takes_head c.args.others.now c.args.tokens.now c.args.self.now c.add_head.new.self (into_iter_items c.args.left.now.heads) (into_iter_items c.next.new.self.heads)
    (into_iter_items c.args.left.now.bodies) (into_iter_items c.next.new.self.bodies) c.in-Some.head c.in-Some.body c.in-Some.ensures.heads c.in-Some.ensures.bodies c.in-Some.ensures.body
    c.in-Ok-add_head.ensures.heads (λ r is. c.in-Ok-add_head.ensures.bodies ∙ c.in-Ok.ensures r is c.args.self.now.heads.items c.requires.known)
