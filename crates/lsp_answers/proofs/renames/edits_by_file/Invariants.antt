use Rattle.std.proofs.Common.{◌≡◌, ℕ, List, length, filter, None}
use Rattle.std.specs.BTreeMap.{get}
use Rattle.lsp_answers.specs.Renames.{is_in}
use Rattle.lsp_answers.specs.Ties.Growing.{grown}
use Rattle.lsp_answers.proofs.Renaming.{by_bytes}
use Rattle.lsp_answers.proofs.renames.edits_by_file.Given as goal

abbrev pub invariant-turn : goal.invariant-turn
invariant-turn l = record {
  same : (uri : List ℕ) → grown l.fn.new_name (get by_bytes l.files uri) (filter (is_in uri) l.rest) ≡ grown l.fn.new_name None (filter (is_in uri) l.fn.toks);
}

abbrev pub decreases-turn : goal.decreases-turn
decreases-turn l = length l.rest
