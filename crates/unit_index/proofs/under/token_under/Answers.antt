use Rattle.std.proofs.Common.{arith, ◌≡◌, ◌-◌, false, ap, sym, ◌∙◌}
use Rattle.unit_index.specs.Under.{begins, ends, identifier_at, passes}
use Rattle.unit_index.proofs.UnderLemmas.{holder, ender, nobody}
use Rattle.unit_index.proofs.under.token_under.Goals as goal

pub returns-then-begins_by : goal.returns-then-begins_by
returns-then-begins_by c =
    sym (holder c.args.offset c.args.tokens.now c.args.places.now c.count_before-behind.result c.requires.apart c.count_before-behind.ensures.point
    (ap (passes (begins c.args.offset)) (sym c.identifier_at.ensures) ∙ sym c.begins_by.ensures ∙ c.if-begins_by.true))

pub returns-then-behind-eq0 : goal.returns-then-behind-eq0
returns-then-behind-eq0 c =
    let zero = c.if-behind-eq0.true in
    sym (nobody c.args.offset c.args.tokens.now c.args.places.now c.count_before-behind.result c.requires.apart c.count_before-behind.ensures.point
    c.count_before-behind.ensures.within
    (ap (passes (begins c.args.offset)) (sym c.identifier_at.ensures) ∙ sym c.begins_by.ensures ∙ c.if-begins_by.false)
    (λ before next. let bad : ⊥ = omega (arith, next, zero) in absurd bad))

pub returns-then-ends_at : goal.returns-then-ends_at
returns-then-ends_at c =
    let some = c.if-behind-eq0.false in
    sym (ender c.args.offset c.args.tokens.now c.args.places.now c.count_before-behind.result (c.count_before-behind.result - 1) c.requires.apart
    c.count_before-behind.ensures.point c.count_before-behind.ensures.within (omega (arith, some))
    (ap (passes (begins c.args.offset)) (sym c.identifier_at.ensures) ∙ sym c.begins_by.ensures ∙ c.if-begins_by.false)
    (ap (passes (ends c.args.offset)) (sym c.identifier_at-2.ensures) ∙ sym c.ends_at.ensures ∙ c.if-ends_at.true))

pub returns : goal.returns
returns c =
    let some = c.if-behind-eq0.false in
    let last : passes (ends c.args.offset) (identifier_at c.args.tokens.now c.args.places.now (c.count_before-behind.result - 1)) ≡ false =
    ap (passes (ends c.args.offset)) (sym c.identifier_at-2.ensures) ∙ sym c.ends_at.ensures ∙ c.if-ends_at.false in
    sym (nobody c.args.offset c.args.tokens.now c.args.places.now c.count_before-behind.result c.requires.apart c.count_before-behind.ensures.point
    c.count_before-behind.ensures.within
    (ap (passes (begins c.args.offset)) (sym c.identifier_at.ensures) ∙ sym c.begins_by.ensures ∙ c.if-begins_by.false)
    (λ before next. let same : before ≡ c.count_before-behind.result - 1 = omega (arith, next, some) in
    ap (λ k. passes (ends c.args.offset) (identifier_at c.args.tokens.now c.args.places.now k)) same ∙ last))
