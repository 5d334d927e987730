use Rattle.std.proofs.Common.{◌≡◌, take}
use Rattle.macro_expand.proofs.types.MarkedList.copy.Given as goal

abbrev pub invariant-loop-token : goal.invariant-loop-token
invariant-loop-token l = l.items.items ≡ take l.token-index l.token-items
