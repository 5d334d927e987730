use Rattle.c_tokens.proofs.AloneLemmas.{alone_look}
use Rattle.c_tokens.proofs.pieces.look_ahead.Goals as goal

pub returns-then-stands_alone : goal.returns-then-stands_alone
returns-then-stands_alone c = alone_look c.args.text.now c.args.at (c.stands_alone.ensures c.if-stands_alone.true)
