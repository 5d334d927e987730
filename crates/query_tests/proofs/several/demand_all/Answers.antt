use Rattle.std.proofs.lemmas.List.{nil_from_length}
use Rattle.query_tests.proofs.SoFar.{begins, turns, ends, ends_verified}
use Rattle.query_tests.proofs.several.demand_all.Goals as goal

pub roots-init : goal.roots-init
roots-init g c = begins g.R.Rules.queries c.args.graph.now c.args.roots.now c.demands_begin.ensures c.requires.sound c.requires.unswept

pub demand-requires : goal.demand-requires
demand-requires g c = record { unswept = c.roots.invariant.demanded.unswept }

pub roots-preserved : goal.roots-preserved
roots-preserved g c =
    turns g.R.Rules.queries c.args.graph.now c.args.roots.now c.demands_go_on.ensures c.verified_on.ensures c.requires.sound c.roots.graph c.demand.new.self c.in-Some.root.now c.in_ok-key.key c.roots.rest.now c.in-Some.behind.now c.in_ok-demand.field-0 c.roots.invariant
    c.in-Some.ensures.cases.0 c.in_ok-key.ensures (record { sound = c.demand.ensures.sound; unswept = c.demand.ensures.still_unswept; leaves = c.demand.ensures.leaves; due = c.demand.ensures.due }) c.in_ok-demand.ensures.holds

pub returns-clause-demanded : goal.returns-clause-demanded
returns-clause-demanded g c = ends g.R.Rules.queries c.args.graph.now c.args.roots.now c.roots.graph c.roots.rest.now c.roots.invariant (nil_from_length c.roots.rest.now (c.in_default.ensures.cases))

pub returns-clause-verified : goal.returns-clause-verified
returns-clause-verified g c = ends_verified g.R.Rules.queries c.args.graph.now c.args.roots.now c.roots.graph c.roots.rest.now c.roots.invariant (nil_from_length c.roots.rest.now (c.in_default.ensures.cases))
