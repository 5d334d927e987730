use Rattle.std.proofs.Common.{refl}
use Rattle.query_core.proofs.graph.Graph.check.Goals as goal
use Rattle.query_core.proofs.Steps.{stage_run}
use Rattle.query_core.proofs.Running.{look_outdated, look_waits, stale_within}

pub start-requires-clause-running : goal.start-requires-clause-running
start-requires-clause-running g c =
    stage_run g.R.Rules.queries c.args.self.now c.args.key c.requires.checking.0
    (look_outdated g.R.Rules.queries g.met.R.Rules.lawful c.args.self.now c.in-Changed.ensures.sound c.args.key c.args.node c.args.place c.requires.checking c.in-Changed.ensures.look)

pub read_key-requires : goal.read_key-requires
read_key-requires g c = stale_within g.R.Rules.queries c.args.self.now c.args.key c.args.node c.args.place c.requires.checking c.in-Stale.place c.in-Stale.ensures.look

pub returns-in_ok-on-in-Stale-clause-ok : goal.returns-in_ok-on-in-Stale-clause-ok
returns-in_ok-on-in-Stale-clause-ok g c =
    let w = look_waits g.R.Rules.queries g.met.R.Rules.lawful c.args.self.now c.in-Stale.ensures.sound c.args.key c.args.node c.args.place c.requires.checking c.in-Stale.place
    c.in-Stale.ensures.look c.in_ok-on-in-Stale.on c.in_ok-on-in-Stale.on_node c.in_ok-on-in-Stale.ensures in
    (refl, refl, refl, record { stale = c.requires.stale; stage = w.0 }, w.1, w.2, w.3)
