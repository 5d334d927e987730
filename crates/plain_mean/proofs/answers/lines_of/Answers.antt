use Rattle.plain_mean.proofs.Told.{lines_entry}
use Rattle.plain_mean.proofs.answers.lines_of.Goals as goal

pub returns-clause-entry : goal.returns-clause-entry
returns-clause-entry c = lines_entry c.args.lexings.now c.args.path.now c.in_ok-lexed.lexed.places c.in_ok-lexed.ensures.lexed.places
