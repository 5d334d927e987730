use Rattle.plain_mean.proofs.Told.{there_entry, absent_entry}
use Rattle.plain_mean.proofs.answers.held.Goals as goal

pub returns-in-Some-clause-entry : goal.returns-in-Some-clause-entry
returns-in-Some-clause-entry c = there_entry c.args.docs.now c.args.path.now c.in-Some.field-0.now c.in-Some.ensures.text

pub returns-in-None-clause-entry : goal.returns-in-None-clause-entry
returns-in-None-clause-entry c = absent_entry c.args.docs.now c.args.path.now c.in-None.ensures.text
