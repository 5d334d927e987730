use Rattle.std.specs.Vec.Iter.{into_iter_items}
use Rattle.stmt_checks.proofs.Noting.{new_says_nothing}
use Rattle.stmt_checks.proofs.Taking.{kept_left, nothing_left}
use Rattle.stmt_checks.proofs.kept.left_over.Goals as goal

pub returns-in_default-clause-left : goal.returns-in_default-clause-left
returns-in_default-clause-left c = λ first tagged.
    nothing_left first c.new.result (into_iter_items c.none_left.result.parts) (into_iter_items c.none_left.result.heads) (into_iter_items c.none_left.result.bodies) c.none_left.ensures.parts

pub returns-in_default-clause-nothing : goal.returns-in_default-clause-nothing
returns-in_default-clause-nothing c = λ alone. new_says_nothing c.new.result c.new.ensures

pub returns-then-not-is_comparable-clause-left : goal.returns-then-not-is_comparable-clause-left
returns-then-not-is_comparable-clause-left c = λ first tagged.
    nothing_left first c.new-then-not-is_comparable.result (into_iter_items c.none_left-then-not-is_comparable.result.parts) (into_iter_items c.none_left-then-not-is_comparable.result.heads) (into_iter_items c.none_left-then-not-is_comparable.result.bodies)
    c.none_left-then-not-is_comparable.ensures.parts

pub returns-then-not-is_comparable-clause-nothing : goal.returns-then-not-is_comparable-clause-nothing
returns-then-not-is_comparable-clause-nothing c = λ alone. new_says_nothing c.new-then-not-is_comparable.result c.new-then-not-is_comparable.ensures
