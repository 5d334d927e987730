use Rattle.std.proofs.Common.{◌∙◌, sym, subst}
use Rattle.lsp_framing.specs.Known.{FoundIn}
use Rattle.lsp_framing.specs.declared.header.State.{State}
use Rattle.lsp_framing.proofs.Reading.{window_more, window_line, window_fault, window_end}
use Rattle.lsp_framing.proofs.header.read_header.Goals as goal

pub loop-at-preserved-in_default : goal.loop-at-preserved-in_default
loop-at-preserved-in_default c =
    window_more _ _ _ _ c.loop-at-test.true c.loop-at.invariant (sym c.in_default.ensures)

pub loop-at-preserved : goal.loop-at-preserved
loop-at-preserved c =
    window_line _ _ _ _ c.loop-at-test.true c.loop-at.invariant _ _ (sym c.is_empty.ensures ∙ c.if-is_empty.false)
    (sym c.in-Some.ensures) (sym c.in-Ok.ensures.line) c.in-Ok.ensures.most

pub returns-in-Err : goal.returns-in-Err
returns-in-Err c =
    window_fault _ _ _ _ c.loop-at-test.true c.loop-at.invariant _ _ (sym c.is_empty.ensures ∙ c.if-is_empty.false)
    (sym c.in-Some.ensures) (sym c.in-Err.ensures.line)

pub returns-then-is_empty : goal.returns-then-is_empty
returns-then-is_empty c =
    let P : State → Type 0 = λ s. FoundIn c.args.window.now s in
    subst P (sym c.ended.ensures)
    (window_end _ _ _ _ c.loop-at-test.true c.loop-at.invariant _ (sym c.is_empty.ensures ∙ c.if-is_empty.true) (sym c.in-Some.ensures))
