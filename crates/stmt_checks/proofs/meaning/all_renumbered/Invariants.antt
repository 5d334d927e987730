use Rattle.std.proofs.Common.{◌≡◌, ◌++◌, map}
use Rattle.elab_state.specs.Seen.{context_of}
use Rattle.stmt_checks.specs.Meanings.{renumbered}
use Rattle.stmt_checks.proofs.meaning.all_renumbered.Given as goal

abbrev pub invariant-faults : goal.invariant-faults
invariant-faults l = l.out.items ++ map (renumbered (context_of l.around)) l.fault-iterator.rest.items ≡ map (renumbered (context_of l.around)) l.fn.faults.items
