use Rattle.std.proofs.Common.{◌++◌, subst}
use Rattle.plain_mean.specs.Gathered.{AreGathered}
use Rattle.c_session.proofs.showing.add_unit.Goals as goal

pub returns : goal.returns
returns c = λ fs rs are.
    subst (λ xs. AreGathered (fs ++ xs) (rs ++ c.args.unit.now.reads) c.add_reads.new.self) c.faults.ensures
    (subst (λ xs. AreGathered (fs ++ c.faults.result.now) (rs ++ xs) c.add_reads.new.self) c.reads.ensures
    (c.in_ok-add_reads.ensures (fs ++ c.faults.result.now) rs (c.in_ok-add_faults.ensures fs rs are)))
