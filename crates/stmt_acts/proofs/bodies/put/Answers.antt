use Rattle.std.proofs.Common.{◌++◌, append-nil, ap, sym, ◌∙◌}
use Rattle.stmt_acts.specs.Shown.{acts_of, one_of}
use Rattle.stmt_acts.proofs.bodies.put.Goals as goal

pub returns-in-None : goal.returns-in-None
returns-in-None c =
    sym (append-nil (acts_of c.args.acts.now.items)) ∙ ap (λ o. acts_of c.args.acts.now.items ++ one_of o) (sym c.in-None.is)
