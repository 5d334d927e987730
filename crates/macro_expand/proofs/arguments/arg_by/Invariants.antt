use Rattle.std.proofs.Common.{◌≡◌, length}
use Rattle.macro_expand.specs.Arguments.{arg_by}
use Rattle.macro_expand.proofs.arguments.arg_by.Given as goal

abbrev pub invariant-parameters : goal.invariant-parameters
invariant-parameters l = arg_by l.variadic l.names l.args l.name ≡ arg_by l.variadic l.fn.names l.fn.args l.name

abbrev pub decreases-parameters : goal.decreases-parameters
decreases-parameters l = length l.args
