use Rattle.c_parser.proofs.Uniqueness.{unique}
use Rattle.c_parser.proofs.whole.reading_is_unique.Goals as goal

pub returns : goal.returns
returns c = unique
