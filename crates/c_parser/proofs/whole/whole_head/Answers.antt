use Rattle.std.proofs.Common.{subst, sym, length}
use Rattle.tree_data.specs.Trees.{Heading}
use Rattle.c_parser.specs.Heads.{HoldsHead}
use Rattle.c_parser.specs.Reading.{IsAtFront, IsRefused}
use Rattle.c_parser.proofs.HeadWholes.{head_fails}
use Rattle.c_parser.proofs.Wholes.{front_is}
use Rattle.c_parser.proofs.whole.whole_head.Goals as goal

pub returns-in-Err-clause-place : goal.returns-in-Err-clause-place
returns-in-Err-clause-place c = subst IsAtFront (sym c.at_front.ensures) (front_is c.in-Err.stop)

pub returns-in-Err-clause-only : goal.returns-in-Err-clause-only
returns-in-Err-clause-only c =
    subst
    (λ w. (u : Heading) → HoldsHead w u 0 (length w.kinds) → IsRefused c.at_front.result)
    c.in-Ok.ensures
    (head_fails _ c.in-Err.stop _ c.at_front.ensures c.in-Err.ensures.only)
