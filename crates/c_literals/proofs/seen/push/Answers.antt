use Rattle.c_literals.proofs.CCharLemmas.{push_four, push_many}
use Rattle.c_literals.proofs.seen.push.Goals as goal

pub returns-in-Four : goal.returns-in-Four
returns-in-Four c = λ p more. push_four p c.args.seen _ _ _ _ c.args.unit more c.in-Four.is

pub returns-in-Many : goal.returns-in-Many
returns-in-Many c = λ p more. push_many p c.args.seen c.args.unit more c.in-Many.is
