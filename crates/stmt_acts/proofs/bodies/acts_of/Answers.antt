use Rattle.std.proofs.Common.{◌++◌, append-nil, ap, ◌∙◌}
use Rattle.tree_data.specs.Stated.{stmt_of}
use Rattle.stmt_acts.specs.Bodies as bodies
use Rattle.stmt_acts.specs.Shown as shown
use Rattle.stmt_acts.specs.Works.{acts_left}
use Rattle.stmt_acts.proofs.Chains.{turned, ended}
use Rattle.stmt_acts.proofs.bodies.acts_of.Goals as goal

pub works-init : goal.works-init
works-init c =
    ap (λ xs. shown.acts_of xs ++ acts_left c.begin.new.works) c.new-acts.ensures.items
    ∙ c.in_ok-begin.ensures
    ∙ ap (λ x. bodies.body (stmt_of c.args.body.now) ++ x) c.new-works.ensures.acts
    ∙ append-nil (bodies.body (stmt_of c.args.body.now))

pub returns-in_default : goal.returns-in_default
returns-in_default c = ended (shown.acts_of c.works.acts.items) c.in_default.ensures.acts c.works.invariant

pub works-preserved : goal.works-preserved
works-preserved c =
    turned (shown.acts_of c.works.acts.items) (shown.one_of c.in_ok-act.act) (acts_left c.taken.new.works)
    c.in_ok-put.ensures c.in_ok-act.ensures.acts c.in-Some.ensures.acts c.works.invariant
