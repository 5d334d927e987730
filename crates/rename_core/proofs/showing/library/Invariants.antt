use Rattle.std.proofs.Common.{◌≡◌, length}
use Rattle.std.specs.List.{find}
use Rattle.rename_core.specs.Showing.{is_in_library}
use Rattle.rename_core.proofs.showing.library.Given as goal

abbrev pub invariant-toks : goal.invariant-toks
invariant-toks l = find is_in_library l.rest ≡ find is_in_library l.toks

abbrev pub decreases-toks : goal.decreases-toks
decreases-toks l = length l.rest
