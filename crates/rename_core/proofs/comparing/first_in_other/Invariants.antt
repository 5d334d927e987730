use Rattle.std.proofs.Common.{length}
use Rattle.std.specs.Prelude.{option_map}
use Rattle.rename_core.specs.Kept.{at}
use Rattle.rename_core.proofs.CompareLemmas.{Compares}
use Rattle.rename_core.proofs.comparing.first_in_other.Given as goal

abbrev pub invariant-toks : goal.invariant-toks
invariant-toks l = Compares (at l.before) (at l.after) l.toks l.rest (option_map (λ f. f.now) l.known)

abbrev pub decreases-toks : goal.decreases-toks
decreases-toks l = length l.rest
