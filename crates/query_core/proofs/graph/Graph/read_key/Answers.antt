use Rattle.std.proofs.Common.{refl}
use Rattle.query_core.specs.Stored.{seen}
use Rattle.query_core.proofs.graph.Graph.read_key.Goals as goal
use Rattle.query_core.proofs.Steps.{read_absent, key_read}

pub unreachable-requires-in-None : goal.unreachable-requires-in-None
unreachable-requires-in-None g c =
    read_absent g.R.Rules.queries c.args.self.now c.node.ensures.sound c.args.node c.args.place (seen c.in-Some.kept) c.in-Some.ensures.value c.in-Some.kept.reads.now refl c.requires c.in-None.ensures.value

pub returns : goal.returns
returns g c =
    key_read c.args.self.now c.args.node c.args.place (seen c.in-Some.kept) c.in-Some.ensures.value c.in-Some.kept.reads.now refl c.requires (seen c.in-Some-node.read) c.in-Some-node.ensures.value
    c.in_ok-key-in-Some-node.key c.in_ok-key-in-Some-node.ensures
