use Rattle.std.proofs.Common.{Some, cond, bytes_eq, ap, ◌∙◌}
use Rattle.c_session.specs.Renewal.{held_as, held_at}
use Rattle.c_session.proofs.Holding.{updated}
use Rattle.c_session.proofs.held.Waiting.put.Goals as goal

pub returns : goal.returns
returns c = λ q.
    updated c.args.self.now.units c.insert.new.self c.in_ok-path.path (Some (held_as c.args.unit c.args.grounds)) c.in_ok-insert.ensures.updates.0 q
    ∙ ap (λ p. cond (bytes_eq q p) (Some (held_as c.args.unit c.args.grounds)) (held_at c.args.self.now q)) (c.in_ok-path.ensures ∙ c.path.ensures)
