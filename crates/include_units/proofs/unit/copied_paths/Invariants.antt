use Rattle.std.proofs.Common.{◌≡◌, take}
use Rattle.include_units.proofs.unit.copied_paths.Given as goal

abbrev pub invariant-loop-path : goal.invariant-loop-path
invariant-loop-path l = l.out.items ≡ take l.path-index l.paths
