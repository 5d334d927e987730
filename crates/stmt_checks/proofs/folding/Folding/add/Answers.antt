use Rattle.std.proofs.Common.{◌+◌, take, ap, ◌∙◌, arith}
use Rattle.stmt_checks.proofs.Folds.{added, body_within}
use Rattle.stmt_checks.proofs.folding.Folding.add.Goals as goal
use Rattle.stmt_checks.specs.Folding.{folded_of}
use Rattle.stmt_checks.specs.Folds.{head_of}

pub returns-in-Ok-clause-items : goal.returns-in-Ok-clause-items
returns-in-Ok-clause-items c = λ r is.
    added r c.args.tokens.now (folded_of c.args.self.now) (folded_of c.add_head.new.self) c.in_ok-head.head _
    (c.in_ok-head.ensures r is c.args.self.now.heads.items c.requires.known
    ∙ ap (λ ts. head_of r c.args.name.now ts c.args.self.now.heads.items) c.front.ensures.tokens
    ∙ ap (λ n. head_of r c.args.name.now (take (n + 1) c.args.tokens.now) c.args.self.now.heads.items) c.body_start-at.ensures)
    c.in-Ok.ensures.heads (c.in-Ok.ensures.bodies ∙ c.in_ok-add_body.ensures r is c.args.self.now.heads.items c.requires.known)

pub overflow_add-at : goal.overflow_add-at
overflow_add-at c = omega (arith, c.requires.size, c.body_start-at.ensures, body_within c.args.tokens.now)
