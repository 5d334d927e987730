use Rattle.std.proofs.Common.{◌≡◌, ◌++◌, length, map}
use Rattle.plain_mean.specs.Meanings.{entry}
use Rattle.plain_mean.proofs.meaning.entries.Given as goal

abbrev pub invariant-entered : goal.invariant-entered
invariant-entered l = l.out.items ++ map entry l.rest ≡ map entry l.fn.entered

abbrev pub decreases-entered : goal.decreases-entered
decreases-entered l = length l.rest
