use Rattle.std.proofs.Common.{sym, subst, ap, ◌∙◌, ◌≡◌, ◌+◌, false, length, arith}
use Rattle.std.proofs.lemmas.List.{length_push}
use Rattle.query_core.specs.Lists.{Has}
use Rattle.query_core.specs.Graph.{node_of, is_verified}
use Rattle.query_core.specs.Walk.{AreAnswered}
use Rattle.query_core.proofs.graph.Graph.collect.Goals as goal
use Rattle.query_core.proofs.Steps.{answered_push, answered_len, has_get}

pub returns-in-Behind : goal.returns-in-Behind
returns-in-Behind g c =
    let has = subst (λ l. Has l c.index-keys-place.result) c.as_slice-keys.ensures (has_get c.as_slice-keys.result.now c.loop-place.place c.index-keys-place.result c.loop-place-test.true c.index-keys-place.is) in
    let same : c.index-keys-place.result ≡ c.in_ok-on-in-Behind.on = sym c.in_ok-on-in-Behind.ensures in (
      subst (λ l. AreAnswered g.R.Rules.queries c.args.self.now l c.loop-place.answered) c.as_slice-keys.ensures c.loop-place.invariant.answered,
      subst (Has c.args.asked.now) same has,
      subst (λ x. is_verified g.R.Rules.queries c.args.self.now x ≡ false) same c.in-Behind.ensures.1,
      subst (λ x. node_of g.R.Rules.queries c.args.self.now x ≡ c.in-Behind.node) same c.in-Behind.ensures.0,
    )

pub loop-place-preserved : goal.loop-place-preserved
loop-place-preserved g c = record {
  answered = subst (AreAnswered g.R.Rules.queries c.args.self.now c.as_slice-keys.result.now) (sym c.in_ok-push-in-Current.ensures.ok)
      (answered_push g.R.Rules.queries c.args.self.now c.find-node.ensures.sound c.index-keys-place.result c.in-Current.node c.in-Current.ensures.0 c.in-Current.ensures.1
      c.loop-place.answered c.as_slice-keys.result.now c.loop-place.place c.loop-place.invariant.answered c.loop-place.invariant.so_far c.loop-place-test.true c.index-keys-place.is);
  so_far = ap length c.in_ok-push-in-Current.ensures.ok ∙ length_push c.loop-place.answered c.in-Current.node ∙ ap (λ n. n + 1) c.loop-place.invariant.so_far;
}

pub returns : goal.returns
returns g c = (
  subst (λ l. AreAnswered g.R.Rules.queries c.args.self.now l c.loop-place.answered) c.as_slice-keys.ensures c.loop-place.invariant.answered,
  (let l = answered_len g.R.Rules.queries c.args.self.now c.loop-place.answered c.as_slice-keys.result.now c.loop-place.invariant.answered in
      let so_far = c.loop-place.invariant.so_far in let t = c.loop-place-test.false in
      let all : length c.loop-place.answered ≡ length c.as_slice-keys.result.now = omega arith in all ∙ ap length c.as_slice-keys.ensures),
)
