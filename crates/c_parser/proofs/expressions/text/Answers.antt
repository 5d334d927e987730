use Rattle.std.proofs.Common.{sym, subst, arith}
use Rattle.c_parser.specs.Reading.{Found, IsWant}
use Rattle.c_parser.proofs.Parsing.{found_only, text_found}
use Rattle.c_parser.proofs.expressions.text.Goals as goal

pub returns-in-Ok-clause-found : goal.returns-in-Ok-clause-found
returns-in-Ok-clause-found c =
    subst
    (λ t. Found c.args.kinds.now 17 c.args.at t c.in-Ok.end)
    (sym c.text.ensures)
    (text_found _ _ _ _ c.requires.kind c.in-Ok.ensures.found)

pub returns-in-Ok-clause-only : goal.returns-in-Ok-clause-only
returns-in-Ok-clause-only c =
    found_only
    _
    _
    _
    _
    _
    (omega arith)
    (subst
    (λ t. Found c.args.kinds.now 17 c.args.at t c.in-Ok.end)
    (sym c.text.ensures)
    (text_found _ _ _ _ c.requires.kind c.in-Ok.ensures.found))

pub returns-in-Err-clause-only : goal.returns-in-Err-clause-only
returns-in-Err-clause-only c t end h s = subst IsWant (sym c.in-Err.ensures.memory) tt
