use Rattle.stmt_checks.proofs.Firm.{adds}
use Rattle.stmt_checks.proofs.folding.Folding.put.Goals as goal

pub returns-clause-added : goal.returns-clause-added
returns-clause-added c =
    adds c.args.name.now c.args.tokens.now c.args.self.now c.add_head.new.self c.args.parts.now.items c.push.new.self.items c.args.head c.args.body c.in-Ok.part c.push_body.new.bodies.items c.add_head.result
    c.add_head.ensures.heads c.add_head.ensures.bodies c.in-Ok-push_body.ensures c.in_ok-push.ensures.items c.in-Ok.ensures c.requires.meant
