use Rattle.std.proofs.Common.{◌≡◌, ◌||◌, length}
use Rattle.std.specs.List.{list_any}
use Rattle.tok_data.specs.declared.sources.TokId.{TokId}
use Rattle.unit_index.specs.Introduced.{brings}
use Rattle.unit_index.specs.Sets.{has_tok}
use Rattle.unit_index.proofs.introduced.all_introduced.Given as goal

abbrev pub invariant-units : goal.invariant-units
invariant-units l = (q : TokId) → (has_tok l.found q || list_any (λ u. list_any (brings u q) l.tokens) l.rest) ≡ list_any (λ u. list_any (brings u q) l.tokens) l.units

abbrev pub decreases-units : goal.decreases-units
decreases-units l = length l.rest
