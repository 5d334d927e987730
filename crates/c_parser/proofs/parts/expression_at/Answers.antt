use Rattle.c_parser.proofs.PartsFound.{expression_found, only_shown, fails_shown}
use Rattle.c_parser.proofs.parts.expression_at.Goals as goal

pub returns-in-Ok-level : goal.returns-in-Ok-level
returns-in-Ok-level c = record {
  found = expression_found c.args.scope.now _ _ _ c.in-Ok.ensures.shown _ _ c.in-Ok-level.ensures.found;
  only = only_shown c.args.scope.now _ _ _ c.in-Ok.ensures.shown _ _ c.in-Ok-level.ensures.only;
}

pub returns-clause-only : goal.returns-clause-only
returns-clause-only c = fails_shown c.args.scope.now _ _ _ c.in-Ok.ensures.shown _ c.in-Err.ensures.only
