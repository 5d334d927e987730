use Rattle.std.proofs.Common.{sym, ap, ◌∙◌, lit<, Some, None, cond}
use Rattle.include_units.proofs.HeaderLemmas.{up_none, up_ends}
use Rattle.include_units.proofs.inclusion.up_to_angle.Goals as goal

pub returns-then-is_empty : goal.returns-then-is_empty
returns-then-is_empty c =
    let at = c.in-Some.ensures.byte (lit< tt) (λ w o h. h) in
    ap (λ b. cond b (Some c.in-Some.front.now) None) (sym c.if-is_empty.true)
    ∙ up_ends 62 c.args.text.now c.in-Some.front.now c.in-Some.behind.now c.is_empty.result at.0 at.1 at.2 c.is_empty.ensures

pub returns-else-is_empty : goal.returns-else-is_empty
returns-else-is_empty c =
    let at = c.in-Some.ensures.byte (lit< tt) (λ w o h. h) in
    ap (λ b. cond b (Some c.in-Some.front.now) None) (sym c.if-is_empty.false)
    ∙ up_ends 62 c.args.text.now c.in-Some.front.now c.in-Some.behind.now c.is_empty.result at.0 at.1 at.2 c.is_empty.ensures

pub returns-in-None : goal.returns-in-None
returns-in-None c = let at = c.in-None.ensures.byte (lit< tt) (λ w o h. h) in up_none 62 c.args.text.now at
