-- The list and the replacements that wait make what they made.
use Rattle.std.proofs.Common.{◌≡◌, ◌≤◌}
use Rattle.std.specs.FinMap as map
use Rattle.macro_expand.specs.Ties.Codes.{Names}
use Rattle.macro_expand.specs.Ties.Stands.{Stands, Grows}
use Rattle.macro_expand.specs.Expansion as spec
use Rattle.macro_expand.specs.Ties.Steps as steps
use Rattle.macro_expand.specs.Ties.Machine as work
use Rattle.macro_expand.proofs.machine.climb.Given as goal

abbrev pub invariant-levels : goal.invariant-levels
invariant-levels l = record {
  grows : Grows l.fn.sets l.sets;
  same : (f : Names → Names) → Stands f l.sets
      → work.resume f (spec.expansion (map.get l.table) l.lines) l.frames.items
      (steps.whole f (map.get l.table) l.lines l.level)
      ≡ work.outcome f (spec.expansion (map.get l.table) l.lines) l.fn.machine;
  fewer : l.level.progress.left ≤ l.fn.machine.level.progress.left;
}

abbrev pub decreases-levels : goal.decreases-levels
decreases-levels l = work.waiting l.frames.items
