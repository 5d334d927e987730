use Rattle.std.proofs.Common.{◌∙◌, ap, length}
use Rattle.c_parser.proofs.Enumerated.{view_length}
use Rattle.c_parser.proofs.scope.Kinds.len.Goals as goal

pub returns : goal.returns
returns c = view_length c.self.inside.hidden.value.items c.self.inside.tokens.now c.self.inside.from ∙ ap (λ ks. length ks) c.self.view_is
