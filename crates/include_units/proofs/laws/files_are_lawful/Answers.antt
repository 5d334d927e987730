use Rattle.include_units.proofs.Lawful.{lawful}
use Rattle.include_units.proofs.laws.files_are_lawful.Goals as goal

pub returns : goal.returns
returns c = lawful
