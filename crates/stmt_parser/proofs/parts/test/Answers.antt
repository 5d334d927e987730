use Rattle.std.proofs.Common.{◌∙◌, sym}
use Rattle.stmt_parser.proofs.PartsRead.{test_found, test_unopened, test_fails, test_same, test_unclosed}
use Rattle.stmt_parser.proofs.parts.test.Goals as goal

pub returns-in_default : goal.returns-in_default
returns-in_default c = record {
  found = tt;
  only = test_unopened _ _ (λ k. c.in_default.not-OpenParen (c.kind_at.ensures.kind ∙ k));
}

pub returns-in-Err : goal.returns-in-Err
returns-in-Err c = record {
  found = tt;
  only = test_fails _ _ _ c.in-Err.ensures.only;
}

pub returns-in_default-kind_at : goal.returns-in_default-kind_at
returns-in_default-kind_at c = record {
  found = tt;
  only = test_unclosed _ _ _ _ c.in-Ok.ensures.only (λ k. c.in_default-kind_at.not-CloseParen (c.kind_at-2.ensures.kind ∙ k));
}

pub returns : goal.returns
returns c = record {
  found = test_found _ _ (sym c.in-OpenParen.ensures.kind) _ _ c.in-Ok.ensures.found (sym c.in-CloseParen.ensures.kind) c.in-CloseParen.ensures.inside;
  only = test_same _ _ _ _ c.in-Ok.ensures.only;
}
