use Rattle.stmt_parser.proofs.StatementsRead.{if_untested}
use Rattle.stmt_parser.proofs.steps.if_step.Goals as goal

pub returns-clause-fails : goal.returns-clause-fails
returns-clause-fails c = if_untested c.requires.law _ _ c.requires.kind _ c.in-Err.ensures.only
