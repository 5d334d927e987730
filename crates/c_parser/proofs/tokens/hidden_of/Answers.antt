use Rattle.std.proofs.Common.{ap, ◌∙◌, map}
use Rattle.c_parser.specs.Noted.{number_in}
use Rattle.c_parser.specs.Tokens.{number_among}
use Rattle.c_parser.specs.Words.{is_hidden}
use Rattle.c_parser.proofs.KindLemmas.{same_hidden}
use Rattle.c_parser.proofs.tokens.hidden_of.Goals as goal

pub returns : goal.returns
returns c =
    c.in_ok-hidden.ensures
    ∙ same_hidden
    (number_in c.in_ok-typedefs.typedefs)
    (number_among c.as_slice.result.now)
    c.in_ok-typedefs.ensures
    c.args.tokens.now
    ∙ ap (λ names. map (is_hidden names) c.args.tokens.now) c.as_slice.ensures
