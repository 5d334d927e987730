use Rattle.plain_mean.proofs.UnitsStay.{meaning_stays, grounds_stay}
use Rattle.plain_mean.proofs.laws.units_stay.Goals as goal

pub returns-clause-meaning : goal.returns-clause-meaning
returns-clause-meaning c = λ t t' conf conf' unit same. meaning_stays c.files_are_lawful.ensures t t' conf conf' unit same

pub returns-clause-grounds : goal.returns-clause-grounds
returns-clause-grounds c = λ t t' conf conf' unit same grounds is. grounds_stay c.files_are_lawful.ensures t t' conf conf' unit same grounds is
