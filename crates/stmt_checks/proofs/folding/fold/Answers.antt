use Rattle.std.proofs.Common.{◌≡◌, ap, ◌∙◌, ◌+◌, [], ◌∷◌, drop, rules, arith}
use Rattle.std.proofs.lemmas.List.{drop_all, drop_more}
use Rattle.stmt_checks.proofs.Folds.{goes_left, goes_turns}
use Rattle.stmt_checks.proofs.folding.fold.Goals as goal
use Rattle.stmt_checks.specs.Folding.{folded_of}
use Rattle.stmt_checks.specs.Folds.{head, with_head}

pub items-preserved : goal.items-preserved
items-preserved c =
    let e : drop c.items.item-index c.args.items.now ≡ c.item-item.result ∷ drop (c.items.item-index + 1) c.args.items.now = search (rules, drop_more) in
    goes_turns c.items.invariant e c.in-Ok.ensures.known (λ r is.
    c.in-Ok.ensures.items r is
    ∙ ap (λ ts. with_head r ts (head r c.item-item.result.name ts c.items.folding.heads.items) (folded_of c.items.folding)) c.own.ensures.tokens)

pub returns : goal.returns
returns c =
    let e : drop c.items.item-index c.args.items.now ≡ [] = drop_all c.items.item-index c.args.items.now (search (rules, arith)) in
    goes_left c.items.invariant e
