use Rattle.std.proofs.Common.{sym, ap, ◌∙◌}
use Rattle.serde_json.specs.Written.{compact_text}
use Rattle.unit_index.specs.Seen.{speech_of}
use Rattle.unit_index.specs.Speaking.{speaking}
use Rattle.c_session.specs.Kept.{units_in}
use Rattle.c_session.proofs.Hovering.{hover_told}
use Rattle.c_session.proofs.answers.hover_at.Goals as goal

pub returns : goal.returns
returns c =
    c.in_ok-text.ensures
    ∙ ap compact_text (hover_told (units_in c.args.kept.now) c.args.docs.now c.args.encoding c.args.path.now c.args.pos c.in-Some.tok (speech_of c.in-Some-speaking.speaker)
    (c.in_ok-start.start, c.in_ok-start.end) (sym c.in-Some.is ∙ c.in_ok-tok.ensures)
    (c.in-Some-speaking.ensures ∙ ap (λ us. speaking us c.in-Some.tok) c.as_slice.ensures.value) c.in_ok-start.ensures)
