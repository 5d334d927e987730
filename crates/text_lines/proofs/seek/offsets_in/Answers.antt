use Rattle.std.proofs.Common.{◌+◌, ◌-◌, add-zero, sym, subst, ◌∙◌, arith}
use Rattle.std.specs.Str.{chars, IsCharBoundary}
use Rattle.text_lines.proofs.Cuts.{offset_boundary}
use Rattle.text_lines.proofs.Sought.{found_on, same_sought}
use Rattle.text_lines.proofs.seek.offsets_in.Goals as goal

pub returns-clause-first : goal.returns-clause-first
returns-clause-first c =
    found_on c.args.text.now c.args.first c.args.encoding c.nth_line-at.result.0 _ (chars c.nth_line-at.result.1.now)
    (same_sought c.args.encoding _ _ c.args.first.character (chars c.args.text.now) (sym (add-zero c.args.first.line)) ∙ c.nth_line-at.ensures.seeks c.args.encoding 0 c.args.first.character)
    c.bytes_within.ensures.value

pub returns-clause-second : goal.returns-clause-second
returns-clause-second c =
    let lines = c.args.second.line - c.args.first.line in
    let far = same_sought c.args.encoding c.args.second.line (c.args.first.line + lines) c.args.second.character (chars c.args.text.now) (omega arith) in
    let near = same_sought c.args.encoding lines (lines + 0) c.args.second.character (chars c.nth_line-at.result.1.now) (omega arith) in
    let to_first = c.nth_line-at.ensures.seeks c.args.encoding lines c.args.second.character in
    let to_second = c.nth_line-more.ensures.seeks c.args.encoding 0 c.args.second.character in
    found_on c.args.text.now c.args.second c.args.encoding (c.nth_line-at.result.0 + c.nth_line-more.result.0) _ (chars c.nth_line-more.result.1.now)
    (omega (arith, far, near, to_first, to_second)) c.bytes_within-2.ensures.value

pub returns-clause-first_boundary : goal.returns-clause-first_boundary
returns-clause-first_boundary c =
    subst (λ n. IsCharBoundary c.args.text.now n) (sym (returns-clause-first c)) (offset_boundary c.args.text.now c.args.first c.args.encoding c.utf8.text)

pub returns-clause-second_boundary : goal.returns-clause-second_boundary
returns-clause-second_boundary c =
    subst (λ n. IsCharBoundary c.args.text.now n) (sym (returns-clause-second c)) (offset_boundary c.args.text.now c.args.second c.args.encoding c.utf8.text)
