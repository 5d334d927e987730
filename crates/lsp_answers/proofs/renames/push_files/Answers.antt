use Rattle.lsp_answers.proofs.Renaming.{file_pushed, files_closed}
use Rattle.lsp_answers.proofs.renames.push_files.Goals as goal

pub loop-entry-preserved : goal.loop-entry-preserved
loop-entry-preserved c = record {
  written = file_pushed _ _ _ c.loop-entry.later c.in-Some.entry.0.now c.in-Some.entry.1.now _ _ c.in-Some.ensures.steps c.in_ok-push_file.ensures c.loop-entry.invariant.written;
}

pub returns-clause-written : goal.returns-clause-written
returns-clause-written c = files_closed _ _ _ c.loop-entry.later c.loop-entry.entry-iterator c.in-None.ensures.steps.0 c.in_ok-push_str.ensures.bytes c.loop-entry.invariant.written
