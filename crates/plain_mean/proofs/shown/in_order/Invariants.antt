use Rattle.std.proofs.Common.{◌≡◌, ◌++◌, []}
use Rattle.plain_mean.specs.Shown.{with_all, in_order}
use Rattle.plain_mean.proofs.shown.in_order.Given as goal

abbrev pub invariant-all : goal.invariant-all
invariant-all l = with_all l.set.entries l.shown-iterator.rest.items ≡ with_all [] l.fn.all.items

abbrev pub invariant-loop-shown : goal.invariant-loop-shown
invariant-loop-shown l = l.out.items ++ l.shown-iterator ≡ in_order l.fn.all.items
