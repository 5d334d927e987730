use Rattle.std.proofs.Common.{◌≡◌, ◌++◌, length, map}
use Rattle.std.specs.List.{filter}
use Rattle.plain_mean.specs.Shown.{of_lexing, is_open_comment}
use Rattle.plain_mean.proofs.shown.add_open_comments.Given as goal

abbrev pub invariant-faults : goal.invariant-faults
invariant-faults l = l.all.items ++ map of_lexing (filter is_open_comment l.rest) ≡ l.fn.all.items ++ map of_lexing (filter is_open_comment l.fn.faults)

abbrev pub decreases-faults : goal.decreases-faults
decreases-faults l = length l.rest
