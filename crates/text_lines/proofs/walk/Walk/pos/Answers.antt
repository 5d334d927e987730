use Rattle.std.proofs.Common.{sym, ◌∙◌, ap}
use Rattle.text_lines.proofs.Walked.{place_bounded, place_moved}
use Rattle.text_lines.specs.Positions.{pos_at}
use Rattle.text_lines.proofs.walk.Walk.pos.Goals as goal

pub advance-self-inside-requires-clause-bounded : goal.advance-self-inside-requires-clause-bounded
advance-self-inside-requires-clause-bounded c = place_bounded (c.or_front-from.ensures.place c.self.inside.encoding c.self.invariant)

pub invariant_of-self : goal.invariant_of-self
invariant_of-self c =
    let moved = c.advance-self-inside.ensures in
    place_moved (c.or_front-from.ensures.place c.self.inside.encoding c.self.invariant) moved.forward moved.bounded moved.tells

pub returns-clause-place : goal.returns-clause-place
returns-clause-place c =
    let reached = c.or_front-from.ensures.place c.self.inside.encoding c.self.invariant in
    sym c.advance-self-inside.ensures.here ∙ reached.tells c.args.offset c.or_front-from.ensures.ahead
    ∙ ap (λ w. pos_at w.text c.args.offset w.encoding) c.self.view_is
