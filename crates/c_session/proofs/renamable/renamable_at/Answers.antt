use Rattle.std.proofs.Common.{◌≡◌, IfOk, sym, ap, subst, ◌∙◌}
use Rattle.serde_json.specs.Written.{compact_text}
use Rattle.c_session.specs.Kept.{units_in}
use Rattle.c_session.proofs.Offering.{not_renamable, renamable_told}
use Rattle.c_session.proofs.renamable.renamable_at.Goals as goal

pub returns-then-can : goal.returns-then-can
returns-then-can c =
    c.in_ok-text.ensures
    ∙ ap compact_text (renamable_told (units_in c.args.kept.now) c.args.docs.now c.args.encoding c.args.path.now c.args.pos c.in-Some.tok (sym c.in-Some.is ∙ c.in_ok-tok.ensures) c.in_ok-can.can c.in_ok-can.ensures
    (sym c.if-can.true))

pub returns : goal.returns
returns c =
    subst (λ d. IfOk c.null_text-2.result (λ t. t ≡ compact_text d))
    (not_renamable (units_in c.args.kept.now) c.args.docs.now c.args.encoding c.args.path.now c.args.pos c.in-Some.tok (sym c.in-Some.is ∙ c.in_ok-tok.ensures) c.in_ok-can.can c.in_ok-can.ensures (sym c.if-can.false))
    c.null_text-2.ensures
