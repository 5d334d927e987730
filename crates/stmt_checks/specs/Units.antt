-- What the code keeps of a unit whose items were worked out.
use Rattle.stmt_checks.specs.Folds.{Folded}
use Rattle.stmt_checks.specs.declared.units.AllItems.{AllItems}

abbrev pub all_of : AllItems → Folded
all_of all = record { heads = all.heads.items; bodies = all.bodies.items }
