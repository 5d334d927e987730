use Rattle.std.proofs.Common.{◌∙◌, ap, sym, length}
use Rattle.c_parser.proofs.Enumerated.{view_length}
use Rattle.c_parser.proofs.scope.Scope.kinds.Goals as goal

pub returns-clause-size : goal.returns-clause-size
returns-clause-size c =
    sym (view_length c.in_ok-hidden.hidden.value.items c.self.inside.tokens.now c.args.from) ∙ ap (λ w. length w.kinds) c.self.view_is
