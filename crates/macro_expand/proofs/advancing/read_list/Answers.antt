use Rattle.std.proofs.Common.{rules, ◌≡◌, List, [], ◌∷◌, length, ap, sym, ◌∙◌, arith}
use Rattle.std.proofs.lemmas.List.{nil_from_length}
use Rattle.tok_data.specs.declared.tokens.OutToken.{OutToken}
use Rattle.macro_expand.specs.Ties.Machine.{part_of, next_left}
use Rattle.macro_expand.specs.Ties.Numbers.{reals, real_args, real_building}
use Rattle.macro_expand.specs.Ties.Building.{puts_outcome}
use Rattle.macro_expand.proofs.BuildingLemmas.{parts_on, parts_end}
use Rattle.macro_expand.proofs.advancing.read_list.Goals as goal

pub parts-preserved : goal.parts-preserved
parts-preserved c =
    let begins : c.parts.rest.now ≡ c.in-Some.token.now ∷ c.in-Some.behind.now = search rules in
    let none : c.parts.skip ≡ 0 = grind arith in
    let long = ap (λ (ts : List OutToken). length ts) begins in
    record {
      grows = λ f h. c.parts.invariant.grows f (c.in_ok-next.ensures.grows f h);
      goes = λ f h again.
          parts_on again c.args.def.now (real_args f c.args.args.now) c.args.site.now c.parts.skip c.in-Built.more
          (real_building f c.parts.building) (real_building f c.in-Built.built) _ c.in-Some.token.now
          c.in-Some.behind.now c.parts.rest.now none begins
          (ap (part_of f again) (sym c.in-Built.is) ∙ c.in_ok-next.ensures.value f h again)
          (c.parts.invariant.goes f (c.in_ok-next.ensures.grows f h) again);
      same = ap next_left (sym c.in-Built.is) ∙ c.in_ok-next.ensures.same ∙ c.parts.invariant.same;
      shorter = omega (arith, long, c.parts.invariant.shorter);
    }

pub returns-in-Wanted-clause-grows : goal.returns-in-Wanted-clause-grows
returns-in-Wanted-clause-grows c = λ f h. c.parts.invariant.grows f (c.in_ok-next.ensures.grows f h)

pub returns-in-Wanted-clause-value : goal.returns-in-Wanted-clause-value
returns-in-Wanted-clause-value c = λ f h again.
    let begins : c.parts.rest.now ≡ c.in-Some.token.now ∷ c.in-Some.behind.now = search rules in
    let none : c.parts.skip ≡ 0 = grind arith in
    parts_on again c.args.def.now (real_args f c.args.args.now) c.args.site.now c.parts.skip c.in-Wanted.more
    (real_building f c.parts.building)
    (puts_outcome c.in-Wanted.space (real_building f c.in-Wanted.built)
    (again c.in-Wanted.built.progress (reals f c.in-Wanted.argument)))
    _ c.in-Some.token.now c.in-Some.behind.now c.parts.rest.now none begins
    (ap (part_of f again) (sym c.in-Wanted.is) ∙ c.in_ok-next.ensures.value f h again)
    (c.parts.invariant.goes f (c.in_ok-next.ensures.grows f h) again)

pub returns-clause-grows : goal.returns-clause-grows
returns-clause-grows c = c.parts.invariant.grows

pub returns-clause-value : goal.returns-clause-value
returns-clause-value c = λ f h again.
    let none : c.parts.rest.now ≡ [] = nil_from_length c.parts.rest.now c.in_default.ensures.cases in
    parts_end again c.args.def.now (real_args f c.args.args.now) c.args.site.now c.parts.skip
    (real_building f c.parts.building) _ c.parts.rest.now none (c.parts.invariant.goes f h again)
