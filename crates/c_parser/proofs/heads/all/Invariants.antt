use Rattle.std.proofs.Common.{◌-◌, length}
use Rattle.tree_data.specs.Heads.{declared_of}
use Rattle.c_parser.proofs.HeadLists.{Listing}
use Rattle.c_parser.proofs.heads.all.Given as goal

abbrev pub invariant-declarators : goal.invariant-declarators
invariant-declarators l =
    Listing l.origin l.fn.scope (record { typed = l.leading.typed; typedef = l.leading.typedef }) l.fn.at (declared_of l.list.items) l.inner (record { typed = l.typed; typedef = l.leading.typedef }) l.end

abbrev pub decreases-declarators : goal.decreases-declarators
decreases-declarators l = length l.inner.kinds - l.end
