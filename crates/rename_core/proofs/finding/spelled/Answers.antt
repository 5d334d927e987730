use Rattle.std.proofs.Common.{map, ◌∙◌}
use Rattle.rename_core.specs.Found.{has_tok}
use Rattle.rename_core.proofs.ClassLemmas.{spelled_is}
use Rattle.rename_core.proofs.finding.spelled.Goals as goal

pub returns : goal.returns
returns c =
    c.in_ok-first.ensures ∙ spelled_is (map (λ os. os.now) c.args.units.now) (has_tok c.in_ok-set.set) c.args.toks.now c.in_ok-set.ensures
