use Rattle.std.proofs.Common.{refl, sym, ◌∙◌}
use Rattle.stmt_checks.proofs.Folds.{no_body, one_body}
use Rattle.stmt_checks.proofs.folding.add_body.Goals as goal

pub returns-then-not-is_checked : goal.returns-then-not-is_checked
returns-then-not-is_checked c = λ r is hs same.
    no_body r c.args.tokens.now c.args.head.now hs c.args.bodies.now.items _ (sym c.is_checked.ensures.checked ∙ c.if-not-is_checked.true) refl

pub returns : goal.returns
returns c = λ r is hs same.
    one_body r c.args.tokens.now c.args.head.now hs c.args.bodies.now.items _ c.in_ok-meaning.meaning (sym c.is_checked.ensures.checked ∙ c.if-not-is_checked.false) c.in_ok-push.ensures.items
    (c.in_ok-meaning.ensures r is hs same)
