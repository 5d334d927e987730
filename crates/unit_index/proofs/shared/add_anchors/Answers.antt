use Rattle.std.proofs.Common.{◌||◌, ap}
use Rattle.scope_tables.specs.Occurrences.{is_at}
use Rattle.unit_index.specs.Sets.{has_anchor}
use Rattle.unit_index.specs.Shared.{is_under}
use Rattle.unit_index.proofs.PieceLemmas.{any_among}
use Rattle.unit_index.proofs.shared.add_anchors.Goals as goal

pub pieces-init : goal.pieces-init
pieces-init c = λ q. ap (λ b. has_anchor c.args.anchors.now q || b) (any_among c.pieces-rest.result.now (λ p. p.value) _ c.pieces-rest.ensures (is_under q) (is_at c.args.tok.now))
