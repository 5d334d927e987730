-- What is done and what is left make what the list makes.
use Rattle.std.proofs.Common.{◌≡◌, ◌≤◌, length}
use Rattle.std.specs.FinMap as map
use Rattle.macro_expand.specs.Ties.Codes.{Names}
use Rattle.macro_expand.specs.Ties.Stands.{Stands, Grows}
use Rattle.macro_expand.specs.Ties.Steps as steps
use Rattle.macro_expand.proofs.machine.walk.Given as goal

abbrev pub invariant-tokens : goal.invariant-tokens
invariant-tokens l = record {
  grows : Grows l.fn.sets l.sets;
  same : (f : Names → Names) → Stands f l.sets
      → steps.whole f (map.get l.table) l.lines
      (record { progress = l.progress; done = l.done.items; rest = l.rest })
      ≡ steps.whole f (map.get l.table) l.lines l.fn.walked;
  fewer : l.progress.left ≤ l.fn.walked.progress.left;
}

abbrev pub decreases-tokens : goal.decreases-tokens
decreases-tokens l = length l.rest
