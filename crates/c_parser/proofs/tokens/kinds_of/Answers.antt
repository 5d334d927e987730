use Rattle.std.proofs.Common.{ap, ◌∙◌}
use Rattle.c_parser.specs.Noted.{number_in}
use Rattle.c_parser.specs.Tokens.{spelled_kinds, number_among}
use Rattle.c_parser.proofs.KindLemmas.{same_kinds}
use Rattle.c_parser.proofs.tokens.kinds_of.Goals as goal

pub returns : goal.returns
returns c =
    c.in_ok-kinds.ensures
    ∙ same_kinds
    (number_in c.in_ok-typedefs.typedefs)
    (number_among c.as_slice.result.now)
    c.in_ok-typedefs.ensures
    c.args.tokens.now
    ∙ ap (λ names. spelled_kinds names c.args.tokens.now) c.as_slice.ensures
