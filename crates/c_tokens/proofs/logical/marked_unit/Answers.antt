-- Behind a removed line end or a trigraph sequence, whose last byte is ASCII, the text may be cut.
use Rattle.std.proofs.Common.{arith, refl, ◌+◌, ◌-◌, ◌<◌, slice_index}
use Rattle.c_tokens.proofs.Boundaries.{behind_ascii, within_from_some}
use Rattle.c_tokens.proofs.logical.marked_unit.Goals as goal

pub returns-then-line_end-gt0-clause-boundary : goal.returns-then-line_end-gt0-clause-boundary
returns-then-line_end-gt0-clause-boundary c =
    λ utf8. behind_ascii c.args.text.now (c.backslash_width-backslash.result + c.line_end_width-line_end.result - 1) _
    (omega arith) (omega (arith, c.line_end_width-line_end.ensures.within)) (c.line_end_width-line_end.ensures.ascii c.if-line_end-gt0.true) utf8

pub returns-in-Some-clause-boundary : goal.returns-in-Some-clause-boundary
returns-in-Some-clause-boundary c =
    let some : 0 < slice_index c.args.text.now 2 = omega (arith, c.in-Some.ensures.ascii refl) in
    let ascii : slice_index c.args.text.now 2 < 128 = omega (arith, c.in-Some.ensures.ascii refl) in
    behind_ascii c.args.text.now 2 3 refl (within_from_some c.args.text.now 2 some) ascii
