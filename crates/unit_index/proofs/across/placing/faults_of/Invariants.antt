use Rattle.std.proofs.Common.{◌≡◌, map, ◌++◌}
use Rattle.unit_index.proofs.across.placing.faults_of.Given as goal

abbrev pub invariant-placed : goal.invariant-placed
invariant-placed l = l.out.items ++ map (λ f. f.fault) l.one-iterator.rest.items ≡ map (λ f. f.fault) l.fn.placed.items
