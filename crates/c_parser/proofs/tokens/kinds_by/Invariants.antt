use Rattle.std.proofs.Common.{◌≡◌, take, map}
use Rattle.c_parser.specs.Noted.{number_in}
use Rattle.c_parser.specs.Tokens.{kind_of}
use Rattle.c_parser.proofs.tokens.kinds_by.Given as goal

abbrev pub invariant-loop-token : goal.invariant-loop-token
invariant-loop-token l = l.out.items ≡ map (kind_of (number_in l.typedefs)) (take l.token-index l.tokens)
