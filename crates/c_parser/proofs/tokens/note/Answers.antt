use Rattle.std.proofs.Common.{sym, ◌∙◌}
use Rattle.c_parser.specs.Noted.{number_in}
use Rattle.c_parser.proofs.FirstLemmas.{kept, put}
use Rattle.c_parser.proofs.tokens.note.Goals as goal

pub returns-in_default : goal.returns-in_default
returns-in_default c = kept (number_in c.args.firsts.now) c.args.name.now (λ e. c.in_default.not-None (c.number_in-known.ensures ∙ e)) c.args.number

pub returns : goal.returns
returns c t =
    c.in_ok-put.ensures t
    ∙ put (number_in c.args.firsts.now) c.args.name.now (sym c.number_in-known.ensures ∙ c.in-None.is) c.args.number t
