use Rattle.std.proofs.Common.{◌≡◌, None, length, option_map}
use Rattle.stmt_checks.specs.Begun as spec
use Rattle.stmt_checks.proofs.begun.last_named.Given as goal

abbrev pub invariant-bindings : goal.invariant-bindings
invariant-bindings l = spec.last_named l.name (option_map (λ e. e.now) l.last) l.rest ≡ spec.last_named l.name None l.bindings

abbrev pub decreases-bindings : goal.decreases-bindings
decreases-bindings l = length l.rest
