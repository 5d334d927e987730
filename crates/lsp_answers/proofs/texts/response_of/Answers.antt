use Rattle.std.proofs.Common.{rules, ◌≡◌, ◌∙◌, string_bytes}
use Rattle.frame_form.specs.Written.{framed}
use Rattle.lsp_answers.specs.Ties.Around.{response_text}
use Rattle.lsp_answers.proofs.Responding.{responded}
use Rattle.lsp_answers.proofs.texts.response_of.Goals as goal

pub returns : goal.returns
returns c = λ d is.
    let made : string_bytes c.in_ok-content.content ≡ response_text c.args.id.now c.args.answer.now = search rules in
    let wrote : c.in_ok-bytes.bytes.items ≡ framed (string_bytes c.in_ok-content.content) = search rules in
    wrote ∙ responded c.args.id.now d c.args.answer.now (string_bytes c.in_ok-content.content) is made
