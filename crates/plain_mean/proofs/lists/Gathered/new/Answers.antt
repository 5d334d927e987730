use Rattle.plain_mean.proofs.lists.Gathered.new.Goals as goal

pub returns : goal.returns
returns c = record { faults = λ q. c.new.ensures q; reads = λ q. c.new-2.ensures q }
