use Rattle.std.proofs.Common.{false}
use Rattle.c_tokens.specs.declared.pieces.Context.TheVariants.{Fresh}
use Rattle.c_tokens.specs.Logical.{logical}
use Rattle.c_tokens.proofs.LawLemmas.{joined_pieces}
use Rattle.c_tokens.proofs.laws.pieces_join.Goals as goal

pub returns : goal.returns
returns c = joined_pieces Fresh false 0 (logical c.args._text.now)
