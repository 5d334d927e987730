use Rattle.std.proofs.Common.{◌++◌, List, [], length}
use Rattle.scope_tables.specs.declared.meanings.HeadMeaning.{HeadMeaning}
use Rattle.unit_ends.specs.Ends.{of_item}
use Rattle.unit_ends.specs.Passed.{HasPassed}
use Rattle.unit_ends.proofs.WalkLemmas.{IsWithin}
use Rattle.unit_ends.proofs.faults.add_item.Given as goal

abbrev pub invariant-loop-stated : goal.invariant-loop-stated
invariant-loop-stated l = (front : List HeadMeaning) → HasPassed front [] l.fn.passed →
    IsWithin l.index front l.head l.rest l.passed l.faults.items (l.fn.faults.items ++ of_item l.index.heads l.index.bodies front l.head.item [] l.head.stated)

abbrev pub decreases-loop-stated : goal.decreases-loop-stated
decreases-loop-stated l = length l.rest
