use Rattle.std.proofs.Common.{◌≡◌, ◌-◌, ◌++◌, length, drop, map}
use Rattle.tok_data.specs.declared.sources.TokId.{TokId}
use Rattle.rename_core.specs.Ties.Lists.{listed}
use Rattle.rename_core.specs.Mentions.{tolds}
use Rattle.scope_tables.specs.Occurrences.{same_tok}
use Rattle.rename_core.proofs.mentions.tell_all.Given as goal

abbrev pub invariant-units : goal.invariant-units
invariant-units l = (q : TokId) → listed same_tok l.told q ++ tolds l.unit q (drop l.unit (map (λ os. os.now) l.units)) ≡ tolds 0 q (map (λ os. os.now) l.units)

abbrev pub decreases-units : goal.decreases-units
decreases-units l = length l.units - l.unit
