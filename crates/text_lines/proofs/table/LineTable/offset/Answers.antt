use Rattle.std.proofs.Common.{◌≡◌, ◌≤◌, ◌+◌, length, vec_len, rules, ap, sym, subst, ◌∙◌, arith}
use Rattle.std.specs.Str.{IsCharBoundary}
use Rattle.text_lines.proofs.Cuts.{offset_boundary}
use Rattle.text_lines.proofs.Sought.{offset_past}
use Rattle.text_lines.specs.Positions.{line_starts}
use Rattle.text_lines.proofs.table.LineTable.offset.Goals as goal

pub returns-then-pos-len-clause-value : goal.returns-then-pos-len-clause-value
returns-then-pos-len-clause-value c =
    let past : length (line_starts c.args.text.now) ≤ c.args.pos.line =
    let size : length c.self.inside.starts.items ≡ vec_len c.self.inside.starts = search rules in
    omega (arith, size, ap length (c.self.view_is ∙ c.requires.table)) in
    offset_past c.args.text.now c.args.pos c.args.encoding c.utf8.text past

pub bytes_within-requires : goal.bytes_within-requires
bytes_within-requires c = let place = c.front-front.ensures.place c.args.encoding in omega (arith, place.bounded.rest, place.bounded.short)

pub overflow_add-result : goal.overflow_add-result
overflow_add-result c = let place = c.front-front.ensures.place c.args.encoding in omega (arith, place.bounded.rest, place.bounded.short)

pub returns-clause-boundary : goal.returns-clause-boundary
returns-clause-boundary c =
    subst (λ n. IsCharBoundary c.args.text.now n) (sym (c.front-front.ensures.seeks c.args.pos.character c.args.encoding) ∙ ap (λ n. c.front-front.result.at + n) (sym c.bytes_within.ensures.value)) (offset_boundary c.args.text.now c.args.pos c.args.encoding c.utf8.text)
