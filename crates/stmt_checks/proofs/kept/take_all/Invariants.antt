use Rattle.std.proofs.Common.{◌≡◌, length, List}
use Rattle.std.specs.Vec.Iter.{into_iter_items}
use Rattle.scope_tables.specs.declared.meanings.HeadMeaning.{HeadMeaning}
use Rattle.stmt_checks.proofs.kept.take_all.Given as goal
use Rattle.stmt_checks.specs.Owning.{TakingOver, Unit_of}

abbrev pub invariant-items : goal.invariant-items
invariant-items l =
    (u : Unit_of) → (before : List HeadMeaning) → u.tokens ≡ l.tokens → u.changed ≡ l.changed →
    TakingOver u l.fn.owned.folding l.fn.owned.parts.items l.items before (into_iter_items l.fn.left.parts) (into_iter_items l.fn.left.heads) (into_iter_items l.fn.left.bodies) →
    TakingOver u l.owned.folding l.owned.parts.items l.rest before (into_iter_items l.over.parts) (into_iter_items l.over.heads) (into_iter_items l.over.bodies)

abbrev pub decreases-items : goal.decreases-items
decreases-items l = length l.rest
