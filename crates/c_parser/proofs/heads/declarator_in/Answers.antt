use Rattle.std.proofs.Common.{subst, not}
use Rattle.tree_data.specs.Seen.{declarator_of}
use Rattle.c_parser.specs.HeadsFound.{FoundDeclarator}
use Rattle.c_parser.proofs.HeadDeclarators.{OnlyDeclarator, FailsDeclarator}
use Rattle.c_parser.proofs.heads.declarator_in.Goals as goal

pub returns-in-Ok-declared-clause-found : goal.returns-in-Ok-declared-clause-found
returns-in-Ok-declared-clause-found c =
    subst
    (λ ks. FoundDeclarator ks (not c.args.typed) c.args.at (declarator_of c.in-Ok-declared.found.0) c.in-Ok-declared.found.2)
    c.in-Ok.ensures.shown
    c.in-Ok-declared.ensures.found

pub returns-in-Ok-declared-clause-only : goal.returns-in-Ok-declared-clause-only
returns-in-Ok-declared-clause-only c =
    subst
    (λ ks. OnlyDeclarator ks (not c.args.typed) c.args.at (declarator_of c.in-Ok-declared.found.0) c.in-Ok-declared.found.2)
    c.in-Ok.ensures.shown
    c.in-Ok-declared.ensures.only

pub returns-clause-only : goal.returns-clause-only
returns-clause-only c =
    subst (λ ks. FailsDeclarator ks (not c.args.typed) c.args.at c.in-Err.stop) c.in-Ok.ensures.shown c.in-Err.ensures.only
