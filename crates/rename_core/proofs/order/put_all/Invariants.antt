use Rattle.std.proofs.Common.{◌≡◌, [], length}
use Rattle.rename_core.specs.Found.{put_all}
use Rattle.rename_core.proofs.order.put_all.Given as goal

abbrev pub invariant-toks : goal.invariant-toks
invariant-toks l = put_all l.set.keys l.rest ≡ put_all [] l.toks

abbrev pub decreases-toks : goal.decreases-toks
decreases-toks l = length l.rest
