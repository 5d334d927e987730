use Rattle.std.proofs.Common.{lit<}
use Rattle.project_conf.proofs.ListLemmas.{one_part, split_first}
use Rattle.project_conf.proofs.lists.split_definition.Goals as goal

pub returns-in-Some-clause-parts : goal.returns-in-Some-clause-parts
returns-in-Some-clause-parts c = let at = c.in-Some.ensures.byte (lit< tt) (λ w o h. h) in split_first 59 c.args.list.now c.in-Some.part.now c.in-Some.rest.now at.0 at.1 at.2

pub returns-in-None-clause-parts : goal.returns-in-None-clause-parts
returns-in-None-clause-parts c = let at = c.in-None.ensures.byte (lit< tt) (λ w o h. h) in one_part 59 c.args.list.now at
