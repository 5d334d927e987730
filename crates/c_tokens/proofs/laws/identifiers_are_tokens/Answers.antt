use Rattle.c_tokens.proofs.WordLemmas.{identifier_token}
use Rattle.c_tokens.proofs.WordReads.{token_identifier}
use Rattle.c_tokens.proofs.laws.identifiers_are_tokens.Goals as goal

pub returns : goal.returns
returns c = (identifier_token c.args._text.now, token_identifier c.args._text.now c.utf8._text)
