use Rattle.std.proofs.Common.{◌≡◌, length}
use Rattle.tree_data.specs.Seen.{specifiers_of}
use Rattle.tree_data.specs.Trees.{specifyings, No_specifiers}
use Rattle.c_parser.specs.Heads.{defines}
use Rattle.c_parser.proofs.heads.defines.Given as goal

abbrev pub invariant-specifiers : goal.invariant-specifiers
invariant-specifiers l =
    defines l.kinds (specifyings (specifiers_of l.rest) No_specifiers) ≡ defines l.kinds (specifyings (specifiers_of l.specifiers) No_specifiers)

abbrev pub decreases-specifiers : goal.decreases-specifiers
decreases-specifiers l = length l.rest
