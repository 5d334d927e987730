use Rattle.std.proofs.Common.{arith, ◌∷◌, ◌++◌, ap, sym, ◌∙◌}
use Rattle.tree_data.specs.Heads.{heading_of}
use Rattle.stmt_acts.specs.Acts.{Declare}
use Rattle.stmt_acts.specs.Works.{acts_left}
use Rattle.stmt_acts.proofs.Arms.{of_declared, of_stated}
use Rattle.stmt_acts.proofs.Layers.{item_declared_size, item_stated_size}
use Rattle.stmt_acts.proofs.statements.item.Goals as goal

pub returns-in-Declared-clause-acts : goal.returns-in-Declared-clause-acts
returns-in-Declared-clause-acts c =
    ap (λ d. Declare (heading_of d) ∷ acts_left c.args.works.now) c.deref.ensures
    ∙ ap (λ x. x ++ acts_left c.args.works.now) (sym (of_declared c.args.item.now c.in-Declared.head c.in-Declared.is c.args.within))

pub returns-in-Declared-clause-size : goal.returns-in-Declared-clause-size
returns-in-Declared-clause-size c = let size = item_declared_size c.args.item.now c.in-Declared.head c.in-Declared.is in omega (arith, size)

pub returns-in_ok-push-in-Stated-clause-acts : goal.returns-in_ok-push-in-Stated-clause-acts
returns-in_ok-push-in-Stated-clause-acts c =
    c.in_ok-push-in-Stated.ensures.acts
    ∙ ap (λ x. x ++ acts_left c.args.works.now) (sym (of_stated c.args.item.now c.in-Stated.stmt c.in-Stated.is c.args.within))

pub returns-in_ok-push-in-Stated-clause-size : goal.returns-in_ok-push-in-Stated-clause-size
returns-in_ok-push-in-Stated-clause-size c =
    let size = item_stated_size c.args.item.now c.in-Stated.stmt c.in-Stated.is in
    let pushed = c.in_ok-push-in-Stated.ensures.size in
    omega (arith, size, pushed)
