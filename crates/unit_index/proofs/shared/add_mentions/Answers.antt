use Rattle.std.proofs.Common.{◌||◌, ap}
use Rattle.unit_index.specs.Occurrences.{is_of}
use Rattle.unit_index.specs.Sets.{has_tok}
use Rattle.unit_index.specs.Shared.{gives}
use Rattle.unit_index.proofs.PieceLemmas.{any_among}
use Rattle.unit_index.proofs.shared.add_mentions.Goals as goal

pub pieces-init : goal.pieces-init
pieces-init c = λ q. ap (λ b. has_tok c.args.tokens.now q || b) (any_among c.pieces-rest.result.now (λ p. p.value) _ c.pieces-rest.ensures (gives c.args.asked q) (is_of c.args.anchor.now))
