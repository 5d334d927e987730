use Rattle.std.proofs.Common.{sym, ◌∙◌, arith}
use Rattle.text_lines.proofs.Walked.{place_bounded}
use Rattle.text_lines.proofs.table.LineTable.pos.Goals as goal

pub advance-place-requires-clause-bounded : goal.advance-place-requires-clause-bounded
advance-place-requires-clause-bounded c = place_bounded (c.front-front.ensures.place c.args.encoding)

pub returns : goal.returns
returns c =
    sym c.advance-place.ensures.here ∙ (c.front-front.ensures.place c.args.encoding).tells c.args.offset (omega (arith, c.front-front.ensures.at, c.line.ensures.begins))
