use Rattle.std.proofs.Common.{subst}
use Rattle.elab_state.specs.Tokens.{bare_tokens}
use Rattle.elab_state.specs.Wants.{answered}
use Rattle.scope_tables.specs.Files.{text_of}
use Rattle.stmt_checks.proofs.checking.firm_body.Goals as goal
use Rattle.stmt_checks.specs.Meanings.{MeansBehind}

pub returns-in-Ok : goal.returns-in-Ok
returns-in-Ok c =
    let names = answered c.args.names.now in
    let tags = answered c.args.tags.now in
    let head = c.args.head.now in
    let tokens = bare_tokens c.args.tokens.now in
    subst (λ o. MeansBehind names tags (record { item = head.item; file = text_of head.item; tokens = tokens; base = c.args.base; outside = o }) head c.in-Ok.elab) c.new-outer.ensures
    (subst (λ f. MeansBehind names tags (record { item = head.item; file = f; tokens = tokens; base = c.args.base; outside = c.new-outer.result }) head c.in-Ok.elab) c.in_ok-file.ensures
    c.in-Ok.ensures)
