use Rattle.std.proofs.Common.{ap, ◌∙◌, length, arith}
use Rattle.std.proofs.lemmas.List.{length-drop}
use Rattle.std.specs.FinMap as map
use Rattle.macro_expand.proofs.KeepingLemmas.{skimmed}
use Rattle.macro_expand.proofs.skimming.skim.Goals as goal

pub tokens-preserved : goal.tokens-preserved
tokens-preserved c =
    let plainly = c.in_ok-keep_plain.ensures.shorter in
    let fewer = length-drop 1 c.keep_plain.new.self in
    let left = ap length c.in_ok-keep_first.ensures.rest in
    record {
      grows = λ f h. c.tokens.invariant.grows f (c.in_ok-stays.ensures.grows f h);
      same = λ f h lines p stopped.
          skimmed f (map.get c.args.table.now) lines c.args.room p c.keep_plain.new.kept c.keep_first.new.kept
          c.keep_plain.new.self c.keep_first.new.self c.args.stopped
          (c.in_ok-stays.ensures.value c.if-not-stays.false f h) stopped c.in_ok-keep_first.ensures.rest
          c.in_ok-keep_first.ensures.kept
          ∙ c.in_ok-keep_plain.ensures.value f h.none lines p stopped
          ∙ c.tokens.invariant.same f (c.in_ok-stays.ensures.grows f h) lines p stopped;
      shorter = omega (arith, plainly, fewer, left, c.tokens.invariant.shorter);
    }

pub returns-then-not-stays-clause-grows : goal.returns-then-not-stays-clause-grows
returns-then-not-stays-clause-grows c = λ f h. c.tokens.invariant.grows f (c.in_ok-stays.ensures.grows f h)

pub returns-then-not-stays-clause-value : goal.returns-then-not-stays-clause-value
returns-then-not-stays-clause-value c = λ f h lines p stopped.
    c.in_ok-keep_plain.ensures.value f h.none lines p stopped
    ∙ c.tokens.invariant.same f (c.in_ok-stays.ensures.grows f h) lines p stopped
