use Rattle.std.proofs.Common.{◌∙◌}
use Rattle.unit_index.specs.Sets.{has_tok}
use Rattle.unit_index.proofs.IntroducedLemmas.{uses_left}
use Rattle.unit_index.proofs.introduced.uses_among.Goals as goal

pub returns : goal.returns
returns c =
    c.in_ok-out.ensures
    ∙ uses_left c.args.units.now c.args.tokens.now (has_tok c.in_ok-introduced.introduced) c.in_ok-introduced.ensures
