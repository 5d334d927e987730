use Rattle.c_tokens.proofs.EndLemmas.{logical_follows}
use Rattle.c_tokens.proofs.laws.characters_follow.Goals as goal

pub returns : goal.returns
returns c = logical_follows c.args._text.now
