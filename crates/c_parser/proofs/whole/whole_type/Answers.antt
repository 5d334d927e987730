use Rattle.std.proofs.Common.{subst, length}
use Rattle.tree_data.specs.Trees.{Naming}
use Rattle.tree_data.specs.Seen.{type_of}
use Rattle.c_parser.specs.Reading.{HoldsType, IsRefused}
use Rattle.c_parser.proofs.whole.whole_type.Goals as goal

pub returns-in-Ok-name_of_type-clause-found : goal.returns-in-Ok-name_of_type-clause-found
returns-in-Ok-name_of_type-clause-found c =
    subst (λ ks. HoldsType ks (type_of c.in-Ok-name_of_type.name) 0 (length ks)) c.in-Ok.ensures.shown c.in-Ok-name_of_type.ensures.found

pub returns-clause-only : goal.returns-clause-only
returns-clause-only c =
    subst (λ ks. (t : Naming) → HoldsType ks t 0 (length ks) → IsRefused c.in-Err.error) c.in-Ok.ensures.shown c.in-Err.ensures.only
