use Rattle.std.proofs.Common.{sym, ap, refl, ◌∙◌}
use Rattle.stmt_checks.proofs.Folds.{all_both, goes_ends}
use Rattle.stmt_checks.proofs.Owned.{some_own}
use Rattle.stmt_checks.proofs.TakenOver.{front_stays}
use Rattle.stmt_checks.proofs.units.all_items.Goals as goal
use Rattle.stmt_checks.specs.Folding.{folded_of}
use Rattle.stmt_checks.specs.Folds.{all_items, nothing}

pub returns-clause-meant : goal.returns-clause-meant
returns-clause-meant c = λ r is.
    goes_ends c.in_ok-folding-2.ensures.goes refl r is ∙ ap (λ a. all_items r c.args.tokens.now a c.args.own.now) (goes_ends c.in_ok-folding.ensures refl r is)
    ∙ sym (all_both r c.args.tokens.now nothing c.args.first.now c.args.own.now)

pub returns-clause-front : goal.returns-clause-front
returns-clause-front c =
    let f = c.in_ok-folding.folding in
    front_stays c.args.tokens.now c.args.first.now c.args.own.now f (folded_of c.in_ok-folding-2.folding) c.len-heads_at.result c.len-bodies_at.result c.requires.size
    (c.len-heads_at.ensures ∙ f.heads.ok.0) (c.len-bodies_at.ensures ∙ f.bodies.ok.0) (λ r is. goes_ends c.in_ok-folding.ensures refl r is)
    (λ r is. goes_ends c.in_ok-folding-2.ensures.goes refl r is)

pub returns-clause-own : goal.returns-clause-own
returns-clause-own c =
    let f = c.in_ok-folding.folding in
    some_own f c.in_ok-folding-2.folding c.len-heads_at.result c.len-bodies_at.result (c.len-heads_at.ensures ∙ f.heads.ok.0) (c.len-bodies_at.ensures ∙ f.bodies.ok.0)
    c.in_ok-folding-2.own c.in_ok-folding-2.ensures.own
