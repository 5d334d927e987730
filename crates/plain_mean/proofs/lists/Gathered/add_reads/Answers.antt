use Rattle.std.proofs.Common.{refl}
use Rattle.plain_mean.proofs.Gathering.{reads_added}
use Rattle.plain_mean.proofs.lists.Gathered.add_reads.Goals as goal

pub returns : goal.returns
returns c = λ fs rs are. reads_added c.args.self.now fs rs are _ c.args.paths.now (λ q. c.in_ok-add_all.ensures q) refl
