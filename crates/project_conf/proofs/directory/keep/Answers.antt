use Rattle.project_conf.proofs.KnownLemmas.{known_kept}
use Rattle.project_conf.proofs.directory.keep.Goals as goal

pub returns : goal.returns
returns g c = λ meaning h k. known_kept meaning c.args.map.now c.insert.new.self c.in_ok-key.key c.args.text.now c.args.value c.insert.result c.insert.ensures.updates c.insert.ensures.err c.in_ok-key.ensures.ok k h
