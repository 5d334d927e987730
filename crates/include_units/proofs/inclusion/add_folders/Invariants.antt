use Rattle.std.proofs.Common.{◌≡◌, ◌++◌, length}
use Rattle.include_units.specs.Inclusion.{in_folders}
use Rattle.include_units.proofs.inclusion.add_folders.Given as goal

abbrev pub invariant-loop-folder : goal.invariant-loop-folder
invariant-loop-folder l = l.paths.items ++ in_folders l.rest l.text ≡ l.fn.paths.items ++ in_folders l.fn.folders l.fn.text

abbrev pub decreases-loop-folder : goal.decreases-loop-folder
decreases-loop-folder l = length l.rest
