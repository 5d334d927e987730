use Rattle.std.proofs.Common.{subst}
use Rattle.tree_data.specs.Stated.{stmt_of}
use Rattle.tree_data.specs.Statements.{Statement}
use Rattle.c_parser.specs.Reading.{IsRefused}
use Rattle.stmt_parser.specs.Bodies.{IsBody}
use Rattle.stmt_parser.proofs.bodies.whole.Goals as goal

pub returns-in-Ok-body-clause-found : goal.returns-in-Ok-body-clause-found
returns-in-Ok-body-clause-found c = subst (λ w. IsBody w (stmt_of c.in-Ok-body.stmt)) c.in-Ok.ensures c.in-Ok-body.ensures.found

pub returns-clause-fails : goal.returns-clause-fails
returns-clause-fails c = subst (λ w. (u : Statement) → IsBody w u → IsRefused c.in-Err.error) c.in-Ok.ensures c.in-Err.ensures.fails
