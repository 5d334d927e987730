use Rattle.std.proofs.Common.{◌∙◌, ap, map, length}
use Rattle.c_parser.specs.Enumerations.{settle}
use Rattle.c_parser.specs.Scopes.{shade}
use Rattle.c_parser.proofs.Enumerated.{settle_length}
use Rattle.c_parser.proofs.ScopeLemmas.{bare}
use Rattle.c_parser.proofs.scope.Kinds.new.Goals as goal

pub returns : goal.returns
returns c =
    let is = ap (λ ks. settle ks 0) (ap (λ hidden. map (shade hidden) c.args.tokens.now) c.in_ok-hidden.ensures ∙ bare c.args.tokens.now) in
    record { shown = is; size = ap length is ∙ settle_length c.args.tokens.now 0 }
