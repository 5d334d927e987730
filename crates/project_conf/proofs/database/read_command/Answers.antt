use Rattle.project_conf.proofs.SettingLemmas.{no_more_folders, no_more_defines}
use Rattle.project_conf.proofs.database.read_command.Goals as goal

pub returns-in_default-clause-includes : goal.returns-in_default-clause-includes
returns-in_default-clause-includes c = no_more_folders _ _ _ _ _ c.loop-word.invariant.1 (rw c.in_default.is at c.in_ok-behind.ensures.words)

pub returns-in_default-clause-defines : goal.returns-in_default-clause-defines
returns-in_default-clause-defines c = no_more_defines _ _ _ _ c.loop-word.invariant.2 (rw c.in_default.is at c.in_ok-behind.ensures.words)
