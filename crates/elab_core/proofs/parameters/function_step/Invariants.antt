use Rattle.std.proofs.Common.{◌≡◌, Some, length}
use Rattle.type_data.specs.Types as types
use Rattle.elab_core.specs.Parameters.{all_in_front}
use Rattle.elab_core.proofs.parameters.function_step.Given as goal

abbrev pub invariant-types : goal.invariant-types
invariant-types l = all_in_front l.left l.list ≡ all_in_front l.fn.types (Some types.No_more)

abbrev pub decreases-types : goal.decreases-types
decreases-types l = length l.left
