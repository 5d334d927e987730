use Rattle.std.proofs.Common.{◌≡◌, ◌++◌, length}
use Rattle.c_session.specs.Files.{unreadable_logs}
use Rattle.c_session.proofs.files.unreadable_logs.Given as goal

abbrev pub invariant-listed : goal.invariant-listed
invariant-listed l = l.logs.items ++ unreadable_logs l.rest ≡ unreadable_logs l.fn.found

abbrev pub decreases-listed : goal.decreases-listed
decreases-listed l = length l.rest
