use Rattle.std.proofs.Common.{arith}
use Rattle.c_parser.proofs.Enumerated.{marked_end}
use Rattle.c_parser.proofs.enumerations.constants_of.Goals as goal

pub returns : goal.returns
returns c =
    marked_end
    c.args.tokens.now
    c.tokens.constants.items
    c.tokens.levels.items
    c.tokens.at
    c.tokens.invariant
    (λ l. omega (arith, c.tokens-test.false, l))
