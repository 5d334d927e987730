use Rattle.std.proofs.Common.{◌-◌}
use Rattle.rename_core.specs.Ties.Lists.{listed}
use Rattle.rename_core.specs.Mentions.{same_denoted}
use Rattle.scope_tables.specs.Occurrences.{same_tok}
use Rattle.rename_core.proofs.GoingLemmas.{GoingOn}
use Rattle.rename_core.proofs.walk.walk_from.Given as goal

abbrev pub invariant-toks : goal.invariant-toks
invariant-toks l = GoingOn (listed same_tok l.told) (listed same_denoted l.mentioned) l.tok l.place l.walk

abbrev pub decreases-toks : goal.decreases-toks
decreases-toks l = 9223372036854775808 - l.place
