use Rattle.std.proofs.Common.{◌≡◌}
use Rattle.elab_core.specs.Fielding.{all_withdrawn}
use Rattle.elab_state.specs.Seen.{context_of}
use Rattle.elab_core.proofs.fielding.withdraw_all.Given as goal

abbrev pub invariant-faults : goal.invariant-faults
invariant-faults l = all_withdrawn (context_of l.around) l.fault-iterator.rest.items l.made ≡ all_withdrawn (context_of l.fn.around) l.fn.faults.items l.fn.made
