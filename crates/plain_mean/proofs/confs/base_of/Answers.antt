use Rattle.std.proofs.Common.{Some, option_map, ap, sym, ◌∙◌}
use Rattle.uri_paths.specs.Paths.{is_path}
use Rattle.plain_mean.specs.Confs.{base_of}
use Rattle.plain_mean.proofs.confs.base_of.Goals as goal

pub returns-in_ok-base-in-None : goal.returns-in_ok-base-in-None
unfolding is_path
returns-in_ok-base-in-None c = c.in_ok-base-in-None.ensures ∙ ap (λ root. Some (base_of (option_map (λ r. r.now) root))) (sym c.in-None.is)
