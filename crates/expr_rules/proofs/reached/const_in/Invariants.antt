use Rattle.std.proofs.Common.{◌-◌}
use Rattle.type_rel.specs.Inside.{most_tags}
use Rattle.expr_rules.proofs.ReachedLemmas.{IsReached}
use Rattle.expr_rules.proofs.reached.const_in.Given as goal

abbrev pub invariant-tags : goal.invariant-tags
invariant-tags l = IsReached most_tags l.tags l.id l.place l.reached

abbrev pub decreases-tags : goal.decreases-tags
decreases-tags l = 9223372036854775808 - l.place
