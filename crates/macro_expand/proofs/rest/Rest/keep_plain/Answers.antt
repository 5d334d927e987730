-- Nothing stands in front.
use Rattle.std.proofs.Common.{arith, ◌≡◌, ◌++◌, length, map as list_map, ap, sym, ◌∙◌, drop}
use Rattle.std.proofs.lemmas.Grind.{common_steps}
use Rattle.std.proofs.lemmas.List.{nil_from_length, take-append-drop}
use Rattle.std.specs.FinMap as map
use Rattle.macro_expand.specs.Expansion.{expansion}
use Rattle.macro_expand.specs.Tokens.{plain}
use Rattle.macro_expand.specs.Ties.Keeping.{held}
use Rattle.macro_expand.specs.Ties.Numbers.{reals}
use Rattle.macro_expand.specs.Ties.Parens.{parens, counted}
use Rattle.macro_expand.specs.Ties.Rests.{laid}
use Rattle.macro_expand.proofs.KeepingLemmas.{plains_kept}
use Rattle.macro_expand.proofs.RestLemmas.{plains_before}
use Rattle.macro_expand.proofs.rest.Rest.keep_plain.Goals as goal

pub invariant_of-self : goal.invariant_of-self
invariant_of-self c =
    let front = c.self.inside.front.items in
    let behind = c.self.inside.behind.now in
    let gone = c.split_at.result.0.now in
    let left = c.split_at.result.1.now in
    let short : length front ≡ 0 = grind (arith, common_steps) in
    let parts = plains_before front behind gone left (nil_from_length front short)
    (sym (take-append-drop c.in_ok-count.count behind)
    ∙ ap (λ ts. ts ++ drop c.in_ok-count.count behind) (sym c.split_at.ensures.front)
    ∙ ap (λ ts. gone ++ ts) (sym c.split_at.ensures.back)) in
    c.leave_all.ensures (parens (laid front left))
    (ap (counted c.self.inside.parens) (sym parts) ∙ c.self.invariant ∙ parts)

pub returns-clause-value : goal.returns-clause-value
returns-clause-value c = λ f empty lines p stopped.
    let table = map.get c.args.table.now in
    let room = c.args.room in
    let front = c.self.inside.front.items in
    let behind = c.self.inside.behind.now in
    let left = c.split_at.result.1.now in
    let short : length front ≡ 0 = grind (arith, common_steps) in
    plains_kept f empty table lines room p c.args.kept.now c.skim_plain.new.kept front behind left
    (nil_from_length front short)
    (ap (λ ts. held room c.skim_plain.new.kept (expansion table lines p (list_map plain ts))) c.split_at.ensures.back
    ∙ c.in_ok-count.ensures.value lines p stopped)
    ∙ ap (λ ts. held room c.args.kept.now (expansion table lines p (reals f ts))) c.self.view_is
