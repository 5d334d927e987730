use Rattle.std.proofs.Common.{length}
use Rattle.c_parser.proofs.PartLemmas.{heads_only}
use Rattle.c_parser.proofs.whole.head_reading_is_unique.Goals as goal

pub returns : goal.returns
returns c = λ w h u x y. (heads_only w h 0 (length w.kinds) x u (length w.kinds) y).0
