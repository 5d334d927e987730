use Rattle.std.proofs.Common.{List, sym, ap, subst, ◌∙◌}
use Rattle.macro_expand.specs.Ties.Codes.{Names}
use Rattle.macro_expand.specs.HideSets.{hides, common}
use Rattle.macro_expand.specs.Ties.Stands.{Stands}
use Rattle.macro_expand.proofs.SetLemmas.{hides_nothing, hidden_is, stands_empty}
use Rattle.macro_expand.proofs.sets.Sets.hides.Goals as goal

pub returns-then-is_empty-clause-value : goal.returns-then-is_empty-clause-value
returns-then-is_empty-clause-value c = λ f h.
    hides_nothing c.args.name.now
    ∙ ap (λ (x : Names). hides x c.args.name.now)
    (sym (stands_empty f c.args.self.now c.args.set.now h (c.is_empty.ensures c.if-is_empty.true)))

pub returns-clause-grows : goal.returns-clause-grows
returns-clause-grows c = λ f h. c.only.ensures.grows f (c.in_ok-both.ensures.grows f h)

pub returns-clause-value : goal.returns-clause-value
returns-clause-value c = λ f h.
    let one = c.in_ok-one.ensures.value f (c.in_ok-both.ensures.grows f h) in
    let inside = subst (λ (s : List Names). Stands f s) (sym c.self.view_is) h in
    hidden_is (f c.args.set.now) c.in_ok-names.names.now c.args.name.now c.is_empty-2.result
    (sym (c.in_ok-names.ensures f inside) ∙ ap f (sym c.number.ensures) ∙ c.in_ok-both.ensures.value f h
    ∙ ap (λ (x : Names). common x (f c.args.set.now)) one)
    c.is_empty-2.ensures
