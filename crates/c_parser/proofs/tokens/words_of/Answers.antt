use Rattle.std.proofs.Common.{◌∙◌}
use Rattle.c_parser.specs.Noted.{number_in}
use Rattle.c_parser.specs.Words.{first_among}
use Rattle.c_parser.proofs.KindLemmas.{same_kinds}
use Rattle.c_parser.proofs.tokens.words_of.Goals as goal

pub returns : goal.returns
returns c =
    c.in_ok-kinds.ensures
    ∙ same_kinds
    (number_in c.in_ok-firsts.firsts)
    (first_among c.args.tokens.now)
    c.in_ok-firsts.ensures
    c.args.tokens.now
