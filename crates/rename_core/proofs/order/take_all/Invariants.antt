use Rattle.std.proofs.Common.{◌≡◌, ◌++◌, length}
use Rattle.rename_core.proofs.order.take_all.Given as goal

abbrev pub invariant-toks : goal.invariant-toks
invariant-toks l = l.toks.items ++ l.left.keys ≡ l.fn.set.keys

abbrev pub decreases-toks : goal.decreases-toks
decreases-toks l = length l.left.keys
