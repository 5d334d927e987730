use Rattle.c_tokens.proofs.NextLemmas.{next_is}
use Rattle.c_tokens.proofs.lexing.next_piece.Goals as goal

pub returns : goal.returns
returns c = next_is c.args.text.now c.args.at c.args.context c.args.spaced c.in_ok-read.read c.front_of-front.result c.in_ok-read.ensures c.front_of-front.ensures
