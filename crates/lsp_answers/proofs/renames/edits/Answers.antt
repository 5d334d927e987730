use Rattle.std.proofs.Common.{◌∙◌}
use Rattle.lsp_answers.proofs.Renaming.{edits_spelled}
use Rattle.lsp_answers.proofs.renames.edits.Goals as goal

pub returns : goal.returns
returns c =
    c.written.ensures ∙ c.in_ok-text.ensures.written
    ∙ edits_spelled c.args.new_name.now c.args.toks.now c.in_ok-files.files c.in_ok-text.ensures.ordered c.in_ok-files.ensures
