use Rattle.std.proofs.Common.{◌≡◌, take, map}
use Rattle.include_units.proofs.definitions.names_of.Given as goal

abbrev pub invariant-loop-param : goal.invariant-loop-param
invariant-loop-param l = l.names.items ≡ map (λ t. t.spelling) (take l.param-index l.params)
