-- A walk goes by steps.
use Rattle.std.proofs.Common.{rules, ◌≡◌, [], ◌∷◌, refl, ap, sym, ◌∙◌, subst, arith}
use Rattle.std.specs.Prelude.{option_map}
use Rattle.std.specs.FinMap as map
use Rattle.std.proofs.lemmas.List.{map-append}
use Rattle.macro_expand.specs.declared.expanding.Taken.{Taken}
use Rattle.macro_expand.specs.declared.types.Marked.{Marked}
use Rattle.macro_expand.specs.Substitution.{Expander}
use Rattle.macro_expand.specs.Expansion as spec
use Rattle.macro_expand.specs.Ties.Steps as steps
use Rattle.macro_expand.specs.Ties.Machine as work
use Rattle.macro_expand.specs.Ties.Numbers.{real, reals, real_args}
use Rattle.macro_expand.proofs.WalkLemmas.{stepped_by, whole_kept, whole_ordinary, whole_put, whole_turns, kept_nearer}
use Rattle.macro_expand.proofs.machine.walk.Goals as goal

pub tokens-preserved : goal.tokens-preserved
tokens-preserved c =
    let table = map.get c.args.table.now in
    let again : Expander = spec.expansion table c.args.lines.now in
    let begins : c.tokens.rest ≡ c.in-Some.token ∷ c.pop_front.new.self = search rules in
    let left = kept_nearer c.in-Settled.step c.tokens.progress.left c.pop_front.new.self c.in-Some-kept.token
    (subst (λ (s : Taken). work.IsTaken s c.tokens.progress.left c.pop_front.new.self) c.in-Settled.is
    c.in_ok-taken.ensures.nearer) c.in-Some-kept.is in
    record {
      grows = λ f h. c.tokens.invariant.grows f (c.in_ok-meaning.ensures.grows f (c.in_ok-taken.ensures.grows f h));
      same = λ f h.
          whole_kept table c.args.lines.now c.tokens.progress (reals f c.tokens.done.items)
          (reals f c.push-in-Settled.new.self.items) (real f c.in-Some.token) (reals f c.pop_front.new.self)
          (reals f c.tokens.rest) (reals f c.in-Settled.step.rest)
          (steps.real_step f c.in-Settled.step) (real f c.in-Some-kept.token)
          (steps.whole f table c.args.lines.now c.args.walked)
          (ap (reals f) begins)
          (stepped_by table c.args.lines.now c.tokens.progress (real f c.in-Some.token) (reals f c.pop_front.new.self)
          (steps.meant c.in_ok-meaning.meaning) _
          (c.in_ok-meaning.ensures.value f (c.in_ok-taken.ensures.grows f h)
          ∙ ap (λ (t : Marked). steps.sense table c.tokens.progress.stopped (real f t)) c.of.ensures)
          (ap (work.taken_outcome f again) (sym c.in-Settled.is) ∙ c.in_ok-taken.ensures.value f h again))
          (ap (option_map (real f)) c.in-Some-kept.is)
          (ap (reals f) c.in_ok-push-in-Settled.ensures.items
          ∙ map-append (real f) c.tokens.done.items (c.in-Some-kept.token ∷ []))
          refl
          (c.tokens.invariant.same f (c.in_ok-meaning.ensures.grows f (c.in_ok-taken.ensures.grows f h)));
      fewer = omega (arith, left, c.tokens.invariant.fewer);
    }

pub tokens-preserved-in-Ordinary : goal.tokens-preserved-in-Ordinary
tokens-preserved-in-Ordinary c =
    let table = map.get c.args.table.now in
    let begins : c.tokens.rest ≡ c.in-Some.token ∷ c.pop_front.new.self = search rules in
    record {
      grows = λ f h. c.tokens.invariant.grows f (c.in_ok-meaning.ensures.grows f h);
      same = λ f h.
          whole_ordinary table c.args.lines.now c.tokens.progress (reals f c.tokens.done.items)
          (reals f c.push.new.self.items) (real f c.in-Some.token) (reals f c.pop_front.new.self)
          (reals f c.tokens.rest) (steps.whole f table c.args.lines.now c.args.walked)
          (ap steps.meant (sym c.in-Ordinary.is) ∙ c.in_ok-meaning.ensures.value f h
          ∙ ap (λ (t : Marked). steps.sense table c.tokens.progress.stopped (real f t)) c.of.ensures)
          (ap (reals f) begins)
          (ap (reals f) c.in_ok-push.ensures.items ∙ map-append (real f) c.tokens.done.items (c.in-Some.token ∷ []))
          (c.tokens.invariant.same f (c.in_ok-meaning.ensures.grows f h));
      fewer = c.tokens.invariant.fewer;
    }

pub returns-in_default-kept-clause-grows : goal.returns-in_default-kept-clause-grows
returns-in_default-kept-clause-grows c = λ f h. c.tokens.invariant.grows f (c.in_ok-meaning.ensures.grows f (c.in_ok-taken.ensures.grows f h))

pub returns-in_default-kept-clause-value : goal.returns-in_default-kept-clause-value
returns-in_default-kept-clause-value c = λ f h.
    let table = map.get c.args.table.now in
    let again : Expander = spec.expansion table c.args.lines.now in
    let begins : c.tokens.rest ≡ c.in-Some.token ∷ c.pop_front.new.self = search rules in
    whole_put table c.args.lines.now c.tokens.progress (reals f c.tokens.done.items) (reals f c.from_vec.result)
    (real f c.in-Some.token) (reals f c.pop_front.new.self) (reals f c.tokens.rest)
    (steps.real_step f c.in-Settled.step) (steps.whole f table c.args.lines.now c.args.walked)
    (ap (reals f) begins)
    (stepped_by table c.args.lines.now c.tokens.progress (real f c.in-Some.token) (reals f c.pop_front.new.self)
    (steps.meant c.in_ok-meaning.meaning) _
    (c.in_ok-meaning.ensures.value f (c.in_ok-taken.ensures.grows f h)
    ∙ ap (λ (t : Marked). steps.sense table c.tokens.progress.stopped (real f t)) c.of.ensures)
    (ap (work.taken_outcome f again) (sym c.in-Settled.is) ∙ c.in_ok-taken.ensures.value f h again))
    (ap (option_map (real f)) c.in_default-kept.is) (ap (reals f) c.from_vec.ensures)
    (c.tokens.invariant.same f (c.in_ok-meaning.ensures.grows f (c.in_ok-taken.ensures.grows f h)))

pub returns-in-Called-clause-grows : goal.returns-in-Called-clause-grows
returns-in-Called-clause-grows c = λ f h. c.tokens.invariant.grows f (c.in_ok-meaning.ensures.grows f (c.in_ok-taken.ensures.grows f h))

pub returns-in-Called-clause-value : goal.returns-in-Called-clause-value
returns-in-Called-clause-value c = λ f h.
    let table = map.get c.args.table.now in
    let again : Expander = spec.expansion table c.args.lines.now in
    let begins : c.tokens.rest ≡ c.in-Some.token ∷ c.pop_front.new.self = search rules in
    whole_turns table c.args.lines.now c.tokens.progress (reals f c.tokens.done.items) (reals f c.from_vec-done.result)
    (real f c.in-Some.token) (reals f c.pop_front.new.self) (reals f c.tokens.rest)
    (steps.again_with again (real f c.in-Called.token) (f c.in-Called.names) (reals f c.in-Called.behind)
    (steps.built again c.in-Called.after (real f c.in-Called.token) c.in-Called.def.now (real_args f c.in-Called.args)))
    (steps.whole f table c.args.lines.now c.args.walked)
    (ap (reals f) begins)
    (stepped_by table c.args.lines.now c.tokens.progress (real f c.in-Some.token) (reals f c.pop_front.new.self)
    (steps.meant c.in_ok-meaning.meaning) _
    (c.in_ok-meaning.ensures.value f (c.in_ok-taken.ensures.grows f h)
    ∙ ap (λ (t : Marked). steps.sense table c.tokens.progress.stopped (real f t)) c.of.ensures)
    (ap (work.taken_outcome f again) (sym c.in-Called.is) ∙ c.in_ok-taken.ensures.value f h again))
    (ap (reals f) c.from_vec-done.ensures) (c.tokens.invariant.same f (c.in_ok-meaning.ensures.grows f (c.in_ok-taken.ensures.grows f h)))
