use Rattle.std.proofs.Common.{◌≡◌, length, map}
use Rattle.rename_core.specs.Ties.Lists.{listed}
use Rattle.rename_core.specs.Mentions.{denoted_by, same_denoted}
use Rattle.scope_tables.specs.Occurrences.{same_tok}
use Rattle.rename_core.specs.Ties.Steps.{steps}
use Rattle.rename_core.proofs.walk.Walk.steps.Given as goal

abbrev pub invariant-told : goal.invariant-told
invariant-told l = steps same_tok same_denoted (listed same_denoted l.mentioned) l.self (map denoted_by l.rest) ≡ steps same_tok same_denoted (listed same_denoted l.mentioned) l.fn.self (map denoted_by l.told)

abbrev pub decreases-told : goal.decreases-told
decreases-told l = length l.rest
