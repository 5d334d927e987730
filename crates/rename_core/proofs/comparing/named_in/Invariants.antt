use Rattle.std.proofs.Common.{◌≡◌, length}
use Rattle.std.specs.List.{find}
use Rattle.rename_core.specs.Clashes.{is_named}
use Rattle.rename_core.proofs.comparing.named_in.Given as goal

abbrev pub invariant-occs : goal.invariant-occs
invariant-occs l = find (is_named l.name) l.rest ≡ find (is_named l.name) l.occs

abbrev pub decreases-occs : goal.decreases-occs
decreases-occs l = length l.rest
