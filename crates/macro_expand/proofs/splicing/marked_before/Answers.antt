use Rattle.std.proofs.Common.{rules, ◌≡◌, [], refl}
use Rattle.macro_expand.proofs.BuildingLemmas.{marked_turns, marked_ends}
use Rattle.macro_expand.proofs.splicing.marked_before.Goals as goal

pub loop-token-preserved : goal.loop-token-preserved
loop-token-preserved c = record {
  grows = λ f h. c.loop-token.invariant.grows f (c.in_ok-marked.ensures.grows f h);
  goes = λ f h. marked_turns f c.args.site.now (f c.args.names.now) c.loop-token.front.items c.pop.new.self.items
      c.in-Some.token c.in_ok-marked.marked c.loop-token.rest c.in_ok-more.more _
      c.in-Some.ensures.items c.in_ok-more.ensures (c.in_ok-marked.ensures.value f h)
      (c.loop-token.invariant.goes f (c.in_ok-marked.ensures.grows f h));
}

pub returns-clause-grows : goal.returns-clause-grows
returns-clause-grows c = c.loop-token.invariant.grows

pub returns-clause-value : goal.returns-clause-value
returns-clause-value c = λ f h.
    let none : c.loop-token.front.items ≡ [] = search rules in
    marked_ends f c.args.site.now (f c.args.names.now) c.loop-token.front.items c.loop-token.rest
    c.loop-token.rest c.into_vec-front.result.items c.args.rest c.args.list c.args.rest
    none refl c.into_vec-front.ensures refl (c.loop-token.invariant.goes f h)
