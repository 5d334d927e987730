use Rattle.std.proofs.Common.{sym, ◌∙◌, rules}
use Rattle.elab_state.specs.Tokens.{bare_tokens}
use Rattle.item_readings.specs.Readings.{ReadsHead}
use Rattle.item_readings.specs.Seen.{head_seen}
use Rattle.stmt_checks.proofs.Bare.{head_alike}
use Rattle.stmt_checks.proofs.heading.read.Goals as goal
use Rattle.stmt_checks.specs.TypeNames.{type_names}

pub returns-in-Ok : goal.returns-in-Ok
returns-in-Ok c =
    let names = type_names c.args.made.now.names (bare_tokens c.args.tokens.now) in
    let read : ReadsHead names c.args.tokens.now (head_seen c.in-Ok.reading) = search rules in
    λ r is. read r is ∙ sym (head_alike r names c.args.tokens.now)
