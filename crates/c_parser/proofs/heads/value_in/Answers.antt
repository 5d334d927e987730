use Rattle.std.proofs.Common.{subst, sym, ◌∙◌, Some, None}
use Rattle.tree_data.specs.Seen.{initial_of}
use Rattle.c_parser.specs.HeadsFound.{FoundValue}
use Rattle.c_parser.proofs.HeadLists.{OnlyValue, FailsValue, value_none, value_none_found, value_fails, value_found, value_same}
use Rattle.c_parser.proofs.heads.value_in.Goals as goal

pub returns-in_default-kind_at : goal.returns-in_default-kind_at
returns-in_default-kind_at c = record {
  found = value_none_found c.args.origin _ _ c.requires.inside;
  only =
      subst
      (λ ks. OnlyValue ks c.args.at None c.args.at)
      c.in-Ok.ensures.shown
      (value_none _ _ (λ k. c.in_default-kind_at.not-Equals (c.kind_at.ensures.kind ∙ k)));
}

pub returns-in-Ok-init-clause-found : goal.returns-in-Ok-init-clause-found
returns-in-Ok-init-clause-found c =
    subst
    (λ ks. FoundValue ks c.args.at (Some (initial_of c.in-Ok-init.value)) c.in-Ok-init.end)
    c.in-Ok.ensures.shown
    (value_found _ _ (sym c.in-Equals.ensures.kind) _ _ c.in-Ok-init.ensures.found)

pub returns-in-Ok-init-clause-only : goal.returns-in-Ok-init-clause-only
returns-in-Ok-init-clause-only c =
    subst
    (λ ks. OnlyValue ks c.args.at (Some (initial_of c.in-Ok-init.value)) c.in-Ok-init.end)
    c.in-Ok.ensures.shown
    (value_same _ _ (sym c.in-Equals.ensures.kind) _ _ c.in-Ok-init.ensures.only)

pub returns-clause-only : goal.returns-clause-only
returns-clause-only c =
    subst
    (λ ks. FailsValue ks c.args.at c.in-Err.stop)
    c.in-Ok.ensures.shown
    (value_fails _ _ (sym c.in-Equals.ensures.kind) _ c.in-Err.ensures.only)
