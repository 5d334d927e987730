use Rattle.std.proofs.Common.{refl, sym}
use Rattle.query_core.specs.Stored.{seen}
use Rattle.query_core.proofs.graph.Graph.look.Goals as goal
use Rattle.query_core.proofs.Steps.{read_stands, look_altered, look_open}

pub look_at-requires : goal.look_at-requires
look_at-requires g c =
    read_stands g.R.Rules.queries c.args.self.now c.args.node (seen c.in-Some.kept) c.in-Some.ensures.value c.in-Some.kept.reads.now refl c.loop-at.at c.loop-at-test.true c.node.ensures.sound

pub returns-in-Altered-clause-look : goal.returns-in-Altered-clause-look
returns-in-Altered-clause-look g c =
    look_altered g.R.Rules.queries c.args.self.now c.args.node (seen c.in-Some.kept) c.in-Some.ensures.value c.in-Some.kept.reads.now refl c.loop-at.at c.loop-at-test.true c.in-Altered.ensures

pub returns-in-Open-clause-look : goal.returns-in-Open-clause-look
returns-in-Open-clause-look g c =
    look_open g.R.Rules.queries c.args.self.now c.args.node (seen c.in-Some.kept) c.in-Some.ensures.value c.in-Some.kept.reads.now refl c.loop-at.at c.loop-at-test.true c.loop-at.invariant c.in-Open.ensures

pub loop-at-init : goal.loop-at-init
loop-at-init g c = c.requires.so_far (seen c.in-Some.kept) (sym c.in-Some.ensures.value)
