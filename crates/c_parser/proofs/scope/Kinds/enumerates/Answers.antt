use Rattle.std.proofs.Common.{◌∙◌, ap, sym, slice_index_or, false}
use Rattle.c_parser.specs.Enumerations.{enumerates}
use Rattle.c_parser.proofs.Enumerated.{view_enumerates}
use Rattle.c_parser.proofs.scope.Kinds.enumerates.Goals as goal

pub returns : goal.returns
returns c =
    c.enumerates.ensures
    ∙ ap (λ m. slice_index_or m.constants.items c.args.at false) c.deref.ensures
    ∙ c.self.invariant.constant c.args.at
    ∙ sym (view_enumerates c.self.inside.hidden.value.items c.self.inside.tokens.now c.self.inside.from c.args.at)
    ∙ ap (λ ks. enumerates ks c.args.at) c.self.view_is
