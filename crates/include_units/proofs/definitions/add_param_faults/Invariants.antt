use Rattle.std.proofs.Common.{◌≡◌, [], ◌++◌, map, length}
use Rattle.include_units.specs.Definitions.{param_faults}
use Rattle.include_units.proofs.definitions.add_param_faults.Given as goal

abbrev pub invariant-loop-param : goal.invariant-loop-param
invariant-loop-param l =
    (l.faults ++ param_faults l.seen l.rest ≡ l.fn.faults ++ param_faults [] l.fn.params)
    × (l.seen ++ map (λ t. t.spelling) l.rest ≡ map (λ t. t.spelling) l.fn.params)

abbrev pub decreases-loop-param : goal.decreases-loop-param
decreases-loop-param l = length l.rest
