use Rattle.c_parser.proofs.ScopeLemmas.{told_already}
use Rattle.c_parser.proofs.scope.told.Goals as goal

pub returns-then-is_told : goal.returns-then-is_told
returns-then-is_told c = told_already _ _ _ (c.is_told.ensures c.if-is_told.true)
