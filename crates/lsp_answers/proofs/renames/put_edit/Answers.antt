use Rattle.lsp_answers.proofs.Renaming.{edit_put}
use Rattle.lsp_answers.proofs.renames.put_edit.Goals as goal

pub returns : goal.returns
returns c =
    edit_put c.args.new_name.now c.args.tok.now c.args.files.now c.remove-before.new.self c.insert.new.self c.in_ok-uri.uri c.in_ok-array.array c.remove-before.result
    c.in_ok-uri.ensures c.remove-before.ensures.value c.remove-before.ensures.updates.0 c.in_ok-insert.ensures.updates.0 c.in_ok-array.ensures
