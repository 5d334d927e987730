use Rattle.std.proofs.Common.{subst, ap, ◌∙◌}
use Rattle.tree_data.specs.Seen.{assertion_of}
use Rattle.c_parser.specs.HeadsFound.{FoundAssertion}
use Rattle.c_parser.specs.Kinds.{kind_at}
use Rattle.c_parser.proofs.HeadWholes.{OnlyAssertion, FailsAssertion, shown_assert}
use Rattle.c_parser.proofs.heads.assertion_in.Goals as goal

pub assertion-requires-clause-kind : goal.assertion-requires-clause-kind
assertion-requires-clause-kind c =
    ap (λ ks. kind_at ks c.args.at) c.in-Ok.ensures.shown ∙ shown_assert c.args.at c.args.scope.now c.args.at c.requires.kind

pub returns-in-Ok-assertion-clause-found : goal.returns-in-Ok-assertion-clause-found
returns-in-Ok-assertion-clause-found c =
    subst
    (λ ks. FoundAssertion ks c.args.at (assertion_of c.in-Ok-assertion.found.0) c.in-Ok-assertion.found.1)
    c.in-Ok.ensures.shown
    c.in-Ok-assertion.ensures.found

pub returns-in-Ok-assertion-clause-only : goal.returns-in-Ok-assertion-clause-only
returns-in-Ok-assertion-clause-only c =
    subst
    (λ ks. OnlyAssertion ks c.args.at (assertion_of c.in-Ok-assertion.found.0) c.in-Ok-assertion.found.1)
    c.in-Ok.ensures.shown
    c.in-Ok-assertion.ensures.only

pub returns-clause-only : goal.returns-clause-only
returns-clause-only c = subst (λ ks. FailsAssertion ks c.args.at c.in-Err.stop) c.in-Ok.ensures.shown c.in-Err.ensures.only
