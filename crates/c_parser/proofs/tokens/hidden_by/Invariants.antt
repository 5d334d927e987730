use Rattle.std.proofs.Common.{◌≡◌, take, map, is_none, not, ◌||◌}
use Rattle.c_parser.specs.Noted.{number_in}
use Rattle.c_parser.specs.Words.{is_word}
use Rattle.c_parser.proofs.tokens.hidden_by.Given as goal

abbrev pub invariant-loop-token : goal.invariant-loop-token
invariant-loop-token l = l.out.items ≡ map (λ t. not (is_word t.kind) || is_none (number_in l.typedefs t.spelling)) (take l.token-index l.tokens)
