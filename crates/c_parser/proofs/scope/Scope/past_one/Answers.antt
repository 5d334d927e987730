use Rattle.std.proofs.Common.{◌∙◌, ap, sym, slice_index_or, false}
use Rattle.c_parser.specs.Enumerations.{enumerates}
use Rattle.c_parser.proofs.Enumerated.{past_here, past_there}
use Rattle.c_parser.proofs.scope.Scope.past_one.Goals as goal

pub returns-then-not-enumerates : goal.returns-then-not-enumerates
returns-then-not-enumerates c =
    past_there c.args.self c.args.at
    (ap (λ w. enumerates w.kinds c.args.at) (sym c.self.view_is)
    ∙ sym (c.self.invariant.constant c.args.at)
    ∙ sym (c.enumerates.ensures ∙ ap (λ m. slice_index_or m.constants.items c.args.at false) c.deref.ensures)
    ∙ c.if-not-enumerates.true)

pub returns : goal.returns
returns c =
    past_here c.args.self c.in_ok-behind.behind c.args.at
    (ap (λ w. enumerates w.kinds c.args.at) (sym c.self.view_is)
    ∙ sym (c.self.invariant.constant c.args.at)
    ∙ sym (c.enumerates.ensures ∙ ap (λ m. slice_index_or m.constants.items c.args.at false) c.deref.ensures)
    ∙ c.if-not-enumerates.false)
    c.in_ok-behind.ensures
