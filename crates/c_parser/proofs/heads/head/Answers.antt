use Rattle.std.proofs.Common.{◌∙◌, sym, ap, subst}
use Rattle.tree_data.specs.Seen.{assertion_of}
use Rattle.c_parser.specs.Heads.{past_head}
use Rattle.c_parser.specs.HeadsFound.{FoundHead}
use Rattle.c_parser.proofs.HeadRanges.{asserted_past}
use Rattle.c_parser.proofs.HeadWholes.{OnlyHead, asserts_found, asserts_same, asserts_fail}
use Rattle.c_parser.proofs.heads.head.Goals as goal

pub returns-in-Ok-past : goal.returns-in-Ok-past
returns-in-Ok-past c =
    let here = sym c.in-Assert.ensures.kind in
    record {
      found =
          subst
          (λ h. FoundHead c.args.scope c.args.at h c.in-Ok.found.1)
          (sym c.asserted-head.ensures)
          (asserts_found _ _ _ _ c.in-Ok.ensures.found);
      past =
          c.in-Ok-past.ensures
          ∙ asserted_past c.args.scope c.args.at (assertion_of c.in-Ok.found.0) c.in-Ok.found.1 c.in-Ok.ensures.found.reads
          ∙ ap (past_head c.args.scope) (sym c.asserted-head.ensures);
      only =
          subst
          (λ h. OnlyHead c.args.scope c.args.at h c.in-Ok.found.1)
          (sym c.asserted-head.ensures)
          (asserts_same _ _ here _ _ c.in-Ok.ensures.only);
    }

pub returns-in-Err-clause-only : goal.returns-in-Err-clause-only
returns-in-Err-clause-only c = asserts_fail _ _ (sym c.in-Assert.ensures.kind) _ c.in-Err.ensures.only
