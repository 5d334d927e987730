use Rattle.std.proofs.Common.{◌≡◌, length}
use Rattle.c_session.specs.Shown.{same_list}
use Rattle.c_session.proofs.news.same_list.Given as goal

abbrev pub invariant-faults : goal.invariant-faults
invariant-faults l = same_list l.rest l.others ≡ same_list l.fn.a l.fn.b

abbrev pub decreases-faults : goal.decreases-faults
decreases-faults l = length l.rest
