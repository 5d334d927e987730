use Rattle.project_conf.proofs.RunLemmas.{run_cuts, run_taken}
use Rattle.project_conf.proofs.command_words.take_run.Goals as goal

pub split_at-requires : goal.split_at-requires
split_at-requires c = run_cuts _ _ _ c.utf8.text c.run_size.ensures

pub returns-clause-words : goal.returns-clause-words
returns-clause-words c = run_taken _ _ _ _ _ _ _ c.utf8.text c.run_size.ensures c.split_at.ensures.front c.split_at.ensures.back c.in_ok-push_str.ensures.bytes
