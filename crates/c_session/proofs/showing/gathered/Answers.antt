use Rattle.std.proofs.Common.{◌++◌, [], subst, ◌∙◌}
use Rattle.plain_mean.specs.Gathered.{AreGathered}
use Rattle.c_session.specs.Units.{all_reads, own_faults}
use Rattle.c_session.proofs.showing.gathered.Goals as goal

pub returns : goal.returns
returns c = λ crossed.
    subst (λ xs. AreGathered (own_faults c.args.units.now ++ xs) (all_reads c.args.units.now) c.add_faults.new.self) (c.as_slice.ensures.value ∙ c.in_ok-across.ensures crossed)
    (c.in_ok-add_faults.ensures (own_faults c.args.units.now) (all_reads c.args.units.now) (c.in_ok-add_units.ensures [] [] c.new-gathered.ensures))
