use Rattle.project_conf.proofs.SettingLemmas.{texts_end, nil_folders, nil_defines}
use Rattle.project_conf.proofs.database.read_arguments.Goals as goal

pub returns-clause-includes : goal.returns-clause-includes
returns-clause-includes c = texts_end _ _ _ _ c.loop-argument.invariant.0 c.in_default.ensures.cases (nil_folders _ _ _)

pub returns-clause-defines : goal.returns-clause-defines
returns-clause-defines c = texts_end _ _ _ _ c.loop-argument.invariant.1 c.in_default.ensures.cases (nil_defines _ _)
