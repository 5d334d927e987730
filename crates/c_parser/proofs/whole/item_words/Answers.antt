use Rattle.c_parser.proofs.HeadWholes.{words_are}
use Rattle.c_parser.proofs.whole.item_words.Goals as goal

pub returns-clause-words : goal.returns-clause-words
returns-clause-words c = words_are _ _ _ _ c.in-Ok.ensures.kinds c.in-Ok-hidden_of.ensures
