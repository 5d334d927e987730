use Rattle.query_core.proofs.Linking.{live_turns}
use Rattle.query_core.proofs.readers.Readers.live_of.Goals as goal

pub readers-preserved : goal.readers-preserved
readers-preserved c = λ e h l.
    live_turns c.readers.rest.now c.in-Some.behind.now c.readers.live.items c.push.new.self.items c.in-Some.reader.now e c.in-Some.ensures.cases.0 c.in_ok-push.ensures.items (c.readers.invariant e h l)
