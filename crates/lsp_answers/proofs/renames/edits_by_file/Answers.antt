use Rattle.lsp_answers.proofs.Renaming.{edits_put}
use Rattle.lsp_answers.proofs.renames.edits_by_file.Goals as goal

pub returns : goal.returns
returns c = λ uri. edits_put c.args.new_name.now uri _ _ c.turn.rest.now c.in_default.ensures.cases (c.turn.invariant.same uri)
