use Rattle.std.proofs.Common.{◌≡◌, length}
use Rattle.rename_core.specs.Found.{meanings_told}
use Rattle.rename_core.specs.Ties.Lists.{listed}
use Rattle.scope_tables.specs.Occurrences.{same_tok}
use Rattle.rename_core.specs.Occurrences.{first_some}
use Rattle.rename_core.proofs.showing.two.Given as goal

abbrev pub invariant-toks : goal.invariant-toks
invariant-toks l = first_some (λ t. meanings_told t (listed same_tok l.told t)) l.rest ≡ first_some (λ t. meanings_told t (listed same_tok l.told t)) l.toks

abbrev pub decreases-toks : goal.decreases-toks
decreases-toks l = length l.rest
