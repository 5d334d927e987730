use Rattle.std.proofs.Common.{List, ap, subst, ◌∙◌}
use Rattle.macro_expand.specs.Ties.Codes.{Names}
use Rattle.macro_expand.specs.Ties.Stands.{Stands}
use Rattle.macro_expand.proofs.JoinLemmas.{joined_is}
use Rattle.macro_expand.proofs.sets.Sets.join.Goals as goal

pub remember-requires : goal.remember-requires
remember-requires c = λ f h.
    ap f c.copy.ensures ∙ c.in_ok-made.ensures.value f h ∙ c.in_ok-names.ensures f (c.set.ensures.grows f h)

pub returns-in-Some-clause-value : goal.returns-in-Some-clause-value
returns-in-Some-clause-value c = λ f h.
    c.in-Some.ensures f h
    ∙ joined_is f c.of-join.result c.args.how c.args.left.now c.args.right.now c.of-join.ensures.how c.of-join.ensures.left
    c.of-join.ensures.right

pub returns-clause-grows : goal.returns-clause-grows
returns-clause-grows c = λ f h. c.set.ensures.grows f (subst (λ (s : List Names). Stands f s) c.remember.ensures h)

pub returns-clause-value : goal.returns-clause-value
returns-clause-value c = λ f h.
    let before = subst (λ (s : List Names). Stands f s) c.remember.ensures h in
    c.in_ok-made.ensures.value f before ∙ c.in_ok-names.ensures f (c.set.ensures.grows f before)
    ∙ joined_is f c.of-join.result c.args.how c.args.left.now c.args.right.now c.of-join.ensures.how c.of-join.ensures.left
    c.of-join.ensures.right
