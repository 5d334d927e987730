use Rattle.std.proofs.Common.{[], ◌∷◌, ◌++◌, append_assoc, ap, sym, ◌∙◌}
use Rattle.tree_data.specs.Seen.{tree_of}
use Rattle.tree_data.specs.Stated.{stmt_of}
use Rattle.stmt_acts.specs.Acts.{Enter, Leave, Loop_test}
use Rattle.stmt_acts.specs.Bodies.{statement}
use Rattle.stmt_acts.specs.Withins.{looped}
use Rattle.stmt_acts.specs.Works.{acts_left}
use Rattle.stmt_acts.proofs.statements.repeated.Goals as goal

pub returns-clause-acts : goal.returns-clause-acts
returns-clause-acts c =
    ap (λ x. Enter ∷ x)
    (c.in_ok-act-4.ensures.acts
    ∙ ap (λ x. Enter ∷ x)
    (c.in_ok-push.ensures.acts
    ∙ ap (λ x. statement c.looped.result (stmt_of c.args.stmt.now) ++ x) (c.in_ok-act-3.ensures.acts ∙ ap (λ x. Leave ∷ x) (c.in_ok-act-2.ensures.acts ∙ ap (λ x. Loop_test c.args.at (tree_of c.args.test.now) ∷ x) c.in_ok-act.ensures.acts))
    ∙ ap (λ w. statement w (stmt_of c.args.stmt.now) ++ (Leave ∷ Loop_test c.args.at (tree_of c.args.test.now) ∷ Leave ∷ acts_left c.args.works.now)) c.looped.ensures
    ∙ sym (append_assoc (statement (looped c.args.within) (stmt_of c.args.stmt.now)) (Leave ∷ Loop_test c.args.at (tree_of c.args.test.now) ∷ Leave ∷ []) (acts_left c.args.works.now))))
