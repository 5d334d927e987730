use Rattle.std.proofs.Common.{◌≡◌, length}
use Rattle.std.specs.List.{find}
use Rattle.rename_core.specs.Found.{has_tok}
use Rattle.rename_core.proofs.showing.first_in.Given as goal

abbrev pub invariant-toks : goal.invariant-toks
invariant-toks l = find (has_tok l.set) l.rest ≡ find (has_tok l.set) l.toks

abbrev pub decreases-toks : goal.decreases-toks
decreases-toks l = length l.rest
