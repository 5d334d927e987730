use Rattle.std.proofs.Common.{◌≡◌, take, ◌++◌}
use Rattle.macro_expand.proofs.names.append.Given as goal

abbrev pub invariant-loop-name : goal.invariant-loop-name
invariant-loop-name l = l.out.items ≡ l.fn.out.items ++ take l.name-index l.names
