use Rattle.c_parser.proofs.PartLemmas.{parts_law}
use Rattle.c_parser.proofs.parts.parts_law.Goals as goal

pub returns : goal.returns
returns c = parts_law
