use Rattle.std.proofs.Common.{◌≡◌, ◌||◌, length}
use Rattle.std.specs.List.{list_any}
use Rattle.tok_data.specs.declared.sources.TokId.{TokId}
use Rattle.rename_core.specs.Found.{has_tok}
use Rattle.rename_core.specs.Showing.{is_spelled_at}
use Rattle.rename_core.proofs.marks.note_unit.Given as goal

abbrev pub invariant-occs : goal.invariant-occs
invariant-occs l = (q : TokId) → (has_tok l.set q || list_any (is_spelled_at q) l.rest) ≡ (has_tok l.fn.set q || list_any (is_spelled_at q) l.occs)

abbrev pub decreases-occs : goal.decreases-occs
decreases-occs l = length l.rest
