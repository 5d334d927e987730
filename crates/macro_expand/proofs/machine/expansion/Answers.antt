-- Nothing is left, and nothing waits.
use Rattle.std.proofs.Common.{arith, ◌≡◌, [], List, length, ap, sym, ◌∙◌}
use Rattle.std.proofs.lemmas.List.{nil_from_length}
use Rattle.std.proofs.lemmas.Grind.{common_steps}
use Rattle.std.specs.FinMap as map
use Rattle.macro_expand.specs.declared.machine.Frame.{Frame}
use Rattle.macro_expand.specs.Substitution.{Expander}
use Rattle.macro_expand.specs.Expansion as spec
use Rattle.macro_expand.specs.Ties.Keeping.{held}
use Rattle.macro_expand.specs.Ties.Steps as steps
use Rattle.macro_expand.specs.Ties.Machine as work
use Rattle.macro_expand.proofs.KeepingLemmas.{kept_last}
use Rattle.macro_expand.proofs.WalkLemmas.{whole_done}
use Rattle.macro_expand.proofs.machine.expansion.Goals as goal

pub returns-then-is_empty-2-clause-grows : goal.returns-then-is_empty-2-clause-grows
returns-then-is_empty-2-clause-grows c = λ f h. c.names.invariant.grows f (c.in_ok-delivered.ensures.grows f h)

pub returns-then-is_empty-2-clause-value : goal.returns-then-is_empty-2-clause-value
returns-then-is_empty-2-clause-value c = λ f h.
    let table = map.get c.args.table.now in
    let again : Expander = spec.expansion table c.args.lines.now in
    let machine = c.in_ok-delivered.delivered in
    let short : length machine.frames.items ≡ 0 = grind (arith, common_steps) in
    let none : machine.frames.items ≡ [] = nil_from_length machine.frames.items short in
    kept_last f c.args.room c.deliver.new.kept c.keep.new.self machine.level.progress machine.level.done
    (work.outcome f again machine) c.in_ok-keep.ensures
    (sym (whole_done f table c.args.lines.now machine.level (c.is_empty.ensures.0 c.if-is_empty.true))
    ∙ ap (λ (l : List Frame). work.resume f again l (steps.whole f table c.args.lines.now machine.level)) (sym none))
    ∙ c.in_ok-delivered.ensures.value f h c.args.lines.now
    ∙ c.names.invariant.same f (c.in_ok-delivered.ensures.grows f h)

pub names-preserved : goal.names-preserved
names-preserved c = record {
  grows = λ f h. c.names.invariant.grows f (c.in_ok-delivered.ensures.grows f (c.in_ok-next.ensures.grows f h));
  same = λ f h.
      let stands = c.in_ok-next.ensures.grows f h in
      ap (held c.args.room c.deliver.new.kept) (c.in_ok-next.ensures.value f h)
      ∙ c.in_ok-delivered.ensures.value f stands c.args.lines.now
      ∙ c.names.invariant.same f (c.in_ok-delivered.ensures.grows f stands);
  fewer = let next = c.in_ok-next.ensures.fewer in
      let same = ap (λ p. p.left) c.in_ok-delivered.ensures.progress in
      omega (arith, next, same, c.names.invariant.fewer);
}
