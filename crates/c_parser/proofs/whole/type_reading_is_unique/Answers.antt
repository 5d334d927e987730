use Rattle.c_parser.proofs.Wholes.{type_unique}
use Rattle.c_parser.proofs.whole.type_reading_is_unique.Goals as goal

pub returns : goal.returns
returns c = type_unique
