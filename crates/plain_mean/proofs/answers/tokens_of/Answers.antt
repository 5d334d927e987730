use Rattle.plain_mean.proofs.Told.{tokens_entry}
use Rattle.plain_mean.proofs.answers.tokens_of.Goals as goal

pub returns-clause-entry : goal.returns-clause-entry
returns-clause-entry c = tokens_entry c.args.lexings.now c.args.path.now c.in_ok-lexed.lexed.tokens c.in_ok-lexed.ensures.lexed.tokens
