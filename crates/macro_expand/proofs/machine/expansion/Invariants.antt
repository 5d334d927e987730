-- Each turn makes a replacement, or ends.
use Rattle.std.proofs.Common.{◌≡◌, ◌≤◌, ◌+◌, ◌*◌, length, min, map as list_map}
use Rattle.std.specs.FinMap as map
use Rattle.macro_expand.specs.Ties.Codes.{Names}
use Rattle.macro_expand.specs.Ties.Stands.{Stands, Grows}
use Rattle.macro_expand.specs.Ties.Numbers.{reals}
use Rattle.macro_expand.specs.Tokens.{plain}
use Rattle.macro_expand.specs.Expansion as spec
use Rattle.macro_expand.specs.Ties.Keeping.{held, nothing_kept}
use Rattle.macro_expand.specs.Ties.Machine as work
use Rattle.macro_expand.proofs.machine.expansion.Given as goal

abbrev pub invariant-names : goal.invariant-names
invariant-names l = record {
  grows : Grows l.fn.sets l.sets;
  same : (f : Names → Names) → Stands f l.sets
      → held l.room l.kept (work.outcome f (spec.expansion (map.get l.table) l.lines) l.machine)
      ≡ held l.room nothing_kept (spec.expansion (map.get l.table) l.lines l.fn.progress (reals f (list_map plain l.tokens)));
  fewer : l.machine.level.progress.left ≤ l.fn.progress.left;
}

abbrev pub decreases-names : goal.decreases-names
decreases-names l = 2 * l.machine.level.progress.left + min 1
    (length l.machine.level.rest + length l.machine.frames.items)
