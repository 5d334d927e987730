use Rattle.unit_index.specs.References.{is_introduced}
use Rattle.unit_index.proofs.PieceLemmas.{any_pieces}
use Rattle.unit_index.proofs.introduced.introduces_here.Goals as goal

pub pieces-init : goal.pieces-init
pieces-init c = any_pieces c.pieces-rest.result.now (λ p. p.value) _ c.pieces-rest.ensures (is_introduced c.args.tok.now)
