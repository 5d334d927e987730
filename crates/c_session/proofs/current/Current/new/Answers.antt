use Rattle.plain_mean.specs.Confs.{conf_of}
use Rattle.c_session.proofs.Nothing.{nothing_yet}
use Rattle.c_session.proofs.current.Current.new.Goals as goal

pub returns-clause-kept : goal.returns-clause-kept
returns-clause-kept c = (nothing_yet c.new.result (λ t. conf_of c.of.result t) c.new-2.result c.new.ensures c.new-2.ensures, tt)
