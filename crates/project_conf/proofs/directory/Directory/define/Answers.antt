use Rattle.project_conf.specs.Lists.{define_in}
use Rattle.project_conf.proofs.KnownLemmas.{kept_means}
use Rattle.project_conf.proofs.directory.Directory.define.Goals as goal

pub returns-in-Some-clause-define : goal.returns-in-Some-clause-define
returns-in-Some-clause-define c = kept_means define_in c.args.text.now _ c.in-Some.define.now c.in_ok-define.define (c.self.invariant.1 c.args.text.now) c.in-Some.ensures.value c.in_ok-define.ensures
