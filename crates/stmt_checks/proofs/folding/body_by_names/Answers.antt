use Rattle.elab_state.specs.Tokens.{bare_tokens}
use Rattle.stmt_checks.proofs.Firm.{is_body}
use Rattle.stmt_checks.proofs.folding.body_by_names.Goals as goal

pub returns-in-Done : goal.returns-in-Done
returns-in-Done c = λ hs are.
    is_body hs c.args.earlier.now are c.known.result.now c.tags.result.now c.tags.ensures c.known.ensures.whole c.args.head.now c.in-Done.body (bare_tokens c.args.tokens.now) c.args.base
    c.in_ok-body.field-0 c.in-Done.is c.in_ok-body.ensures
