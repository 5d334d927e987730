use Rattle.std.proofs.Common.{◌≡◌, deque_len}
use Rattle.macro_expand.specs.Ties.Keeping as spec
use Rattle.macro_expand.proofs.keeping.Kept.keep.Given as goal

abbrev pub invariant-tokens : goal.invariant-tokens
invariant-tokens l =
    spec.keep l.room (spec.bare l.items.items) l.self ≡ spec.keep l.room (spec.bare l.fn.list) l.fn.self

abbrev pub decreases-tokens : goal.decreases-tokens
decreases-tokens l = deque_len l.items
