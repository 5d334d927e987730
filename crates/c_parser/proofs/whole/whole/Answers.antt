use Rattle.std.proofs.Common.{subst, length}
use Rattle.tree_data.specs.Trees.{Tree}
use Rattle.tree_data.specs.Seen.{tree_of}
use Rattle.c_parser.specs.Reading.{Reads, IsRefused}
use Rattle.c_parser.proofs.whole.whole.Goals as goal

pub returns-in-Ok-expression-clause-found : goal.returns-in-Ok-expression-clause-found
returns-in-Ok-expression-clause-found c =
    subst (λ ks. Reads ks 1 (tree_of c.in-Ok-expression.expr) 0 (length ks)) c.in-Ok.ensures.shown c.in-Ok-expression.ensures.found

pub returns-clause-only : goal.returns-clause-only
returns-clause-only c =
    subst (λ ks. (t : Tree) → Reads ks 1 t 0 (length ks) → IsRefused c.in-Err.error) c.in-Ok.ensures.shown c.in-Err.ensures.only
