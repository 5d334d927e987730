use Rattle.std.specs.Str.{chars}
use Rattle.c_literals.proofs.CCharLemmas.{of_nothing}
use Rattle.c_literals.proofs.characters.character.Goals as goal

pub returns-in_default : goal.returns-in_default
returns-in_default c = of_nothing (chars c.args.spelling.now) c.in_default.ensures.points
