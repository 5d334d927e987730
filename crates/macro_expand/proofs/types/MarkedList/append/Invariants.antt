use Rattle.std.proofs.Common.{◌≡◌, ◌++◌, deque_len}
use Rattle.macro_expand.proofs.types.MarkedList.append.Given as goal

abbrev pub invariant-tokens : goal.invariant-tokens
invariant-tokens l = l.self-inside.items.items ++ l.items.items ≡ l.fn.self ++ l.initial.items.items

abbrev pub decreases-tokens : goal.decreases-tokens
decreases-tokens l = deque_len l.items
