use Rattle.std.proofs.Common.{◌≡◌, take}
use Rattle.std.specs.Prelude.{filter}
use Rattle.macro_expand.specs.HideSets.{hides}
use Rattle.macro_expand.proofs.names.kept.Given as goal

abbrev pub invariant-loop-name : goal.invariant-loop-name
invariant-loop-name l = l.out.items ≡ filter (hides l.others) (take l.name-index l.names)
