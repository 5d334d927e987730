use Rattle.std.proofs.Common.{◌≡◌, length}
use Rattle.asking.specs.LookUps.{run_by}
use Rattle.tree_data.specs.Heads.{declared_of}
use Rattle.tree_data.specs.Seen.{specs_of}
use Rattle.elab_state.specs.Seen.{context_of, told_of}
use Rattle.elab_state.specs.Wants.{answered}
use Rattle.elab_core.specs.Declarations.{all}
use Rattle.elab_core.proofs.declarations.declare_all.Given as goal

abbrev pub invariant-pairs : goal.invariant-pairs
invariant-pairs l =
    run_by (answered (told_of l.around)) (all (context_of l.around) (specs_of l.specs) l.gathered l.typed l.body (declared_of l.rest) l.walked l.made)
    ≡ run_by (answered (told_of l.around)) (all (context_of l.around) (specs_of l.specs) l.gathered l.typed l.body (declared_of l.pairs) l.fn.walked l.fn.made)

abbrev pub decreases-pairs : goal.decreases-pairs
decreases-pairs l = length l.rest
