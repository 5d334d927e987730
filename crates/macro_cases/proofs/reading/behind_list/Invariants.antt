use Rattle.std.proofs.Common.{length}
use Rattle.macro_cases.proofs.reading.behind_list.Given as goal

abbrev pub decreases-loop-token : goal.decreases-loop-token
decreases-loop-token l = length l.rest
