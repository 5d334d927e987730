use Rattle.std.proofs.Common.{[], ◌∷◌, ◌++◌, append_assoc, ap, sym, ◌∙◌}
use Rattle.tree_data.specs.Stated.{items_of}
use Rattle.tree_data.specs.Statements as tree
use Rattle.tree_data.specs.Statements.{led}
use Rattle.stmt_acts.specs.Acts.{Enter, Leave}
use Rattle.stmt_acts.specs.Bodies.{items}
use Rattle.stmt_acts.specs.Works.{acts_left}
use Rattle.stmt_acts.proofs.statements.block.Goals as goal

pub returns-clause-acts : goal.returns-clause-acts
returns-clause-acts c =
    ap (λ x. Enter ∷ x) (c.in_ok-push.ensures.acts ∙ ap (λ x. items c.args.within (tree.items (items_of c.args.items.now)) ++ x) c.in_ok-act.ensures.acts ∙ sym (append_assoc (items c.args.within (tree.items (items_of c.args.items.now))) (Leave ∷ []) (acts_left c.args.works.now)))
