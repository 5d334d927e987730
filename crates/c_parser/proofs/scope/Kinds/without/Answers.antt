use Rattle.std.proofs.Common.{ap, ◌∙◌}
use Rattle.c_parser.specs.Kinds.{hide_word}
use Rattle.c_parser.proofs.Enumerated.{view_hides}
use Rattle.c_parser.proofs.scope.Kinds.without.Goals as goal

pub returns : goal.returns
returns c =
    view_hides
    c.self.inside.hidden.value.items
    c.in_ok-hidden.hidden.value.items
    c.args.number
    c.in_ok-hidden.ensures
    c.self.inside.tokens.now
    c.self.inside.from
    ∙ ap (λ ks. hide_word ks c.args.number) c.self.view_is
