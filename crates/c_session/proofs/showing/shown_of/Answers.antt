use Rattle.c_session.specs.Units.{all_reads, cross_faults, own_faults}
use Rattle.std.proofs.Common.{◌++◌}
use Rattle.c_session.proofs.showing.shown_of.Goals as goal

pub returns-clause-shown : goal.returns-clause-shown
returns-clause-shown c = λ crossed path.
    c.in_ok-lists.ensures.shown (own_faults c.args.units.now ++ cross_faults c.args.units.now) (all_reads c.args.units.now) (c.in_ok-gathered.ensures crossed) path
