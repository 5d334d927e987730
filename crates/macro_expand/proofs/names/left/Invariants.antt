use Rattle.std.proofs.Common.{◌≡◌, take, not}
use Rattle.std.specs.Prelude.{filter}
use Rattle.macro_expand.specs.HideSets.{hides}
use Rattle.macro_expand.proofs.names.left.Given as goal

abbrev pub invariant-loop-name : goal.invariant-loop-name
invariant-loop-name l = l.out.items ≡ filter (λ n. not (hides l.more n)) (take l.name-index l.names)
