use Rattle.std.proofs.Common.{length}
use Rattle.plain_mean.proofs.Spelling.{IsMarking}
use Rattle.plain_mean.proofs.spelled.marks_of.Given as goal

abbrev pub invariant-toks : goal.invariant-toks
invariant-toks l = IsMarking l.fn.lexings l.defines l.answered l.spelled l.rest l.marks.items l.held l.lexings

abbrev pub decreases-toks : goal.decreases-toks
decreases-toks l = length l.rest
