use Rattle.std.proofs.Common.{◌||◌, ap, ◌∙◌}
use Rattle.scope_tables.specs.Occurrences.{same_tok}
use Rattle.unit_index.specs.Sets.{has_tok}
use Rattle.unit_index.proofs.OrderLemmas.{added}
use Rattle.unit_index.proofs.sets.add_token.Goals as goal

pub returns-in-Ok : goal.returns-in-Ok
returns-in-Ok c = λ q. added _ _ c.in_ok-tok.tok q c.in-Ok.ensures.updates ∙ ap (λ t. has_tok c.args.tokens.now q || same_tok t q) c.in_ok-tok.ensures
