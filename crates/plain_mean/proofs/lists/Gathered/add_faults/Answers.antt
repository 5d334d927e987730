use Rattle.std.proofs.Common.{refl}
use Rattle.plain_mean.proofs.Gathering.{faults_added}
use Rattle.plain_mean.proofs.lists.Gathered.add_faults.Goals as goal

pub returns : goal.returns
returns c = λ fs rs are. faults_added c.args.self.now fs rs are _ c.args.faults.now (λ q. c.in_ok-add_all.ensures q) refl
