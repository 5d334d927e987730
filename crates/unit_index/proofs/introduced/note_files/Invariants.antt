use Rattle.std.proofs.Common.{◌≡◌, ◌||◌, length}
use Rattle.std.specs.List.{list_any}
use Rattle.tok_data.specs.declared.sources.TokId.{TokId}
use Rattle.unit_index.specs.Groups.{in_group}
use Rattle.unit_index.specs.Introduced.{brings}
use Rattle.unit_index.specs.Sets.{has_tok}
use Rattle.unit_index.proofs.introduced.note_files.Given as goal

abbrev pub invariant-files : goal.invariant-files
invariant-files l = (q : TokId) → (has_tok l.found q || list_any (λ f. list_any (brings l.unit q) (in_group l.groups f)) l.rest) ≡ (has_tok l.fn.found q || list_any (λ f. list_any (brings l.unit q) (in_group l.groups f)) l.files)

abbrev pub decreases-files : goal.decreases-files
decreases-files l = length l.rest
