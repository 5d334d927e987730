use Rattle.elab_state.specs.Tokens.{bare_tokens}
use Rattle.stmt_checks.proofs.Firm.{is_head}
use Rattle.stmt_checks.proofs.folding.by_names.Goals as goal

pub returns-in-Done : goal.returns-in-Done
returns-in-Done c = λ hs are.
    is_head hs c.args.earlier.now are c.known.result.now c.tags.result.now c.tags.ensures c.known.ensures.whole c.args.name.now c.in-Done.head (bare_tokens c.args.tokens.now) c.in_ok-head.field-0
    c.in-Done.is c.in_ok-head.ensures
