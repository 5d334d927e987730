use Rattle.stmt_parser.proofs.Wholes.{bodies_unique}
use Rattle.stmt_parser.proofs.laws.body_reading_is_unique.Goals as goal

pub returns : goal.returns
returns c = bodies_unique c.parts_law.ensures
