use Rattle.std.proofs.Common.{◌∙◌, ap, ◌++◌, ℕ, List}
use Rattle.lsp_answers.proofs.Frames.{framed_behind}
use Rattle.lsp_answers.proofs.framing.push_framed.Goals as goal

pub returns : goal.returns
returns c = framed_behind _ _ _ c.args.content.now c.in_ok-push_header.ensures
    (c.in_ok-extend_from_slice.ensures.items ∙ ap (λ (bytes : List ℕ). c.push_header.new.out.items ++ bytes) c.as_bytes.ensures.value)
