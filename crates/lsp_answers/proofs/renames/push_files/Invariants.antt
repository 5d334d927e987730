use Rattle.std.proofs.Common.{◌≡◌, ◌++◌, false, string_bytes}
use Rattle.lsp_answers.specs.Ties.Growing.{files_text}
use Rattle.lsp_answers.proofs.renames.push_files.Given as goal

abbrev pub invariant-loop-entry : goal.invariant-loop-entry
invariant-loop-entry l = record {
  written : string_bytes l.body ++ files_text l.later l.entry-iterator ≡ string_bytes l.fn.body ++ files_text false l.fn.files.entries;
}
