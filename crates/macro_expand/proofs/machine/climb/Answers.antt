-- A level is at its end, and its replacement goes on.
use Rattle.std.proofs.Common.{rules, ◌≡◌, [], List, ap, sym, ◌∙◌, subst, arith}
use Rattle.std.specs.FinMap as map
use Rattle.macro_expand.specs.declared.machine.Stop.{Stop}
use Rattle.macro_expand.specs.declared.machine.Stop.TheVariants as stop
use Rattle.macro_expand.specs.declared.machine.Frame.{Frame}
use Rattle.macro_expand.specs.Substitution.{Expander}
use Rattle.macro_expand.specs.Expansion as spec
use Rattle.macro_expand.specs.Ties.Machine as work
use Rattle.macro_expand.proofs.WalkLemmas.{level_ends}
use Rattle.macro_expand.proofs.machine.climb.Goals as goal

pub levels-preserved : goal.levels-preserved
levels-preserved c =
    let table = map.get c.args.table.now in
    let again : Expander = spec.expansion table c.args.lines.now in
    let frames : List Frame = c.levels.frames.items in
    let none : c.in-Level.walked.rest ≡ [] = search rules in
    let ended = (subst (λ (s : Stop). work.IsStop s c.levels.level.progress.left) c.in-Level.is
    c.in_ok-stop.ensures.ended).0 in
    let next = c.in_ok-next-in-Level.ensures.same in
    record {
      grows = λ f h.
          c.levels.invariant.grows f (c.in_ok-stop.ensures.grows f (c.in_ok-next-in-Level.ensures.grows f h));
      same = λ f h.
          let stopped = c.in_ok-next-in-Level.ensures.grows f h in
          level_ends f table c.args.lines.now c.in-Level.walked c.in-Some.frame c.pop_front.new.self.items frames
          (work.outcome f again c.in_ok-next-in-Level.next) (work.outcome f again c.args.machine)
          none c.in-Some.ensures.items (c.in_ok-next-in-Level.ensures.value f h again)
          (ap (work.resume f again frames)
          (ap (work.stop_outcome f again) (sym c.in-Level.is) ∙ c.in_ok-stop.ensures.value f stopped)
          ∙ c.levels.invariant.same f (c.in_ok-stop.ensures.grows f stopped));
      fewer = omega (arith, next, ended, c.levels.invariant.fewer);
    }

pub levels-preserved-in_ok-next-in-Level : goal.levels-preserved-in_ok-next-in-Level
levels-preserved-in_ok-next-in-Level c =
    let table = map.get c.args.table.now in
    let again : Expander = spec.expansion table c.args.lines.now in
    let frames : List Frame = c.levels.frames.items in
    let none : c.in-Level.walked.rest ≡ [] = search rules in
    let ended = (subst (λ (s : Stop). work.IsStop s c.levels.level.progress.left) c.in-Level.is
    c.in_ok-stop.ensures.ended).0 in
    let next = c.in_ok-next-in-Level.ensures.same in
    record {
      grows = λ f h.
          c.levels.invariant.grows f (c.in_ok-stop.ensures.grows f (c.in_ok-next-in-Level.ensures.grows f h));
      same = λ f h.
          let stopped = c.in_ok-next-in-Level.ensures.grows f h in
          level_ends f table c.args.lines.now c.in-Level.walked c.in-Some.frame c.pop_front.new.self.items frames
          (work.outcome f again c.in_ok-next-in-Level.next) (work.outcome f again c.args.machine)
          none c.in-Some.ensures.items (c.in_ok-next-in-Level.ensures.value f h again)
          (ap (work.resume f again frames)
          (ap (work.stop_outcome f again) (sym c.in-Level.is) ∙ c.in_ok-stop.ensures.value f stopped)
          ∙ c.levels.invariant.same f (c.in_ok-stop.ensures.grows f stopped));
      fewer = omega (arith, next, ended, c.levels.invariant.fewer);
    }

pub returns-in-Called-clause-grows : goal.returns-in-Called-clause-grows
returns-in-Called-clause-grows c = λ f h.
    c.levels.invariant.grows f (c.in_ok-stop.ensures.grows f (c.in_ok-begun-in-Called.ensures.grows f h))

pub returns-in-Called-clause-value : goal.returns-in-Called-clause-value
returns-in-Called-clause-value c = λ f h.
    let again : Expander = spec.expansion (map.get c.args.table.now) c.args.lines.now in
    let stopped = c.in_ok-begun-in-Called.ensures.grows f h in
    c.in_ok-begun-in-Called.ensures.value f h again
    ∙ ap (work.resume f again c.levels.frames.items)
    (ap (work.stop_outcome f again) (sym c.in-Called.is) ∙ c.in_ok-stop.ensures.value f stopped)
    ∙ c.levels.invariant.same f (c.in_ok-stop.ensures.grows f stopped)

pub returns-then-not-is_empty-clause-grows : goal.returns-then-not-is_empty-clause-grows
returns-then-not-is_empty-clause-grows c = λ f h. c.levels.invariant.grows f (c.in_ok-stop.ensures.grows f h)

pub returns-then-not-is_empty-clause-value : goal.returns-then-not-is_empty-clause-value
returns-then-not-is_empty-clause-value c = λ f h.
    let again : Expander = spec.expansion (map.get c.args.table.now) c.args.lines.now in
    ap (work.resume f again c.levels.frames.items)
    (ap (work.stop_outcome f again) (sym c.in-Level.is) ∙ c.in_ok-stop.ensures.value f h)
    ∙ c.levels.invariant.same f (c.in_ok-stop.ensures.grows f h)

pub returns-in_default-clause-grows : goal.returns-in_default-clause-grows
returns-in_default-clause-grows c = λ f h. c.levels.invariant.grows f (c.in_ok-stop.ensures.grows f h)

pub returns-in_default-clause-value : goal.returns-in_default-clause-value
returns-in_default-clause-value c = λ f h.
    let again : Expander = spec.expansion (map.get c.args.table.now) c.args.lines.now in
    let same : c.pop_front.new.self.items ≡ c.levels.frames.items = search rules in
    ap (λ (l : List Frame). work.resume f again l (work.stop_outcome f again (stop.Level c.in-Level.walked))) same
    ∙ ap (work.resume f again c.levels.frames.items)
    (ap (work.stop_outcome f again) (sym c.in-Level.is) ∙ c.in_ok-stop.ensures.value f h)
    ∙ c.levels.invariant.same f (c.in_ok-stop.ensures.grows f h)
