use Rattle.std.proofs.Common.{◌≡◌, length}
use Rattle.stmt_checks.specs.Begun.{all_declared}
use Rattle.stmt_checks.proofs.begun.declare_all.Given as goal

abbrev pub invariant-bindings : goal.invariant-bindings
invariant-bindings l = all_declared l.rest l.names ≡ all_declared l.bindings l.fn.names

abbrev pub decreases-bindings : goal.decreases-bindings
decreases-bindings l = length l.rest
