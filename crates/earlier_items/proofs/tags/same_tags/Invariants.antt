use Rattle.std.proofs.Common.{◌≡◌, length}
use Rattle.earlier_items.proofs.tags.same_tags.Given as goal

abbrev pub invariant-tags : goal.invariant-tags
invariant-tags l = l.rest ≡ l.left → l.some ≡ l.others

abbrev pub decreases-tags : goal.decreases-tags
decreases-tags l = length l.rest
