use Rattle.std.proofs.Common.{◌≡◌, ◌++◌, length}
use Rattle.elab_core.specs.Symbols.{of_occs}
use Rattle.elab_state.specs.Seen.{context_of}
use Rattle.elab_core.proofs.symbols.of_occs.Given as goal

abbrev pub invariant-occs : goal.invariant-occs
invariant-occs l = l.out.items ++ of_occs (context_of l.around) l.made l.rest ≡ of_occs (context_of l.around) l.made l.occs

abbrev pub decreases-occs : goal.decreases-occs
decreases-occs l = length l.rest
