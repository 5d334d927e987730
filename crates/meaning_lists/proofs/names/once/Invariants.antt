use Rattle.std.proofs.Common.{◌≡◌, ◌++◌, []}
use Rattle.meaning_lists.specs.Names.{once, with_all}
use Rattle.meaning_lists.proofs.names.once.Given as goal

abbrev pub invariant-names : goal.invariant-names
invariant-names l = with_all l.set.keys l.name-iterator.rest.items ≡ with_all [] l.fn.names.items

abbrev pub invariant-set : goal.invariant-set
invariant-set l = l.out.items ++ l.name-iterator ≡ once l.fn.names.items
