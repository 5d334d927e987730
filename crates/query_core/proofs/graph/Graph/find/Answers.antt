use Rattle.query_core.proofs.Calls.{numbered_of}
use Rattle.query_core.proofs.graph.Graph.find.Goals as goal

pub find-requires : goal.find-requires
find-requires g c =
    numbered_of g.R.Rules.queries g.met.R.Rules.lawful g.R.Key.PartialEq.eq g.met.R.Rules.same_keys c.self.inside.store c.self.inside.revision c.self.inside.runs.items c.self.invariant.sound
