use Rattle.c_tokens.proofs.AloneLemmas.{alone_next}
use Rattle.c_tokens.proofs.logical.next_character.Goals as goal

pub returns-then-stands_alone : goal.returns-then-stands_alone
returns-then-stands_alone c = alone_next c.args.text.now c.args.at (c.stands_alone.ensures c.if-stands_alone.true)
