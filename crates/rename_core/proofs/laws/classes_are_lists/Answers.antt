use Rattle.rename_core.proofs.ChainLemmas.{is_class, one_class}
use Rattle.rename_core.proofs.laws.classes_are_lists.Goals as goal

pub returns-clause-class : goal.returns-clause-class
returns-clause-class c = λ us t. is_class us t

pub returns-clause-only : goal.returns-clause-only
returns-clause-only c = λ us t class is. one_class us t class is
