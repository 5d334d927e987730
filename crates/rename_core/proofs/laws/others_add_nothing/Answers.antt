use Rattle.rename_core.proofs.ApartLemmas.{others_add_nothing}
use Rattle.rename_core.proofs.laws.others_add_nothing.Goals as goal

pub returns : goal.returns
returns c = others_add_nothing
