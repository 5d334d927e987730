use Rattle.std.proofs.Common.{sym, ◌∙◌, rules}
use Rattle.elab_state.specs.Tokens.{bare_tokens}
use Rattle.item_readings.specs.Readings.{ReadsBody}
use Rattle.item_readings.specs.Seen.{body_seen}
use Rattle.stmt_checks.proofs.Bare.{body_alike}
use Rattle.stmt_checks.proofs.checking.read.Goals as goal
use Rattle.stmt_checks.specs.TypeNames.{type_names}

pub returns-in-Ok : goal.returns-in-Ok
returns-in-Ok c =
    let names = type_names c.args.standing.now.made.names (bare_tokens c.args.tokens.now) in
    let read : ReadsBody names c.args.tokens.now (body_seen c.in-Ok.reading) = search rules in
    λ r is. read r is ∙ sym (body_alike r names c.args.tokens.now)
