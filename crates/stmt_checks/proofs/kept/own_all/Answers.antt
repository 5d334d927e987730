use Rattle.stmt_checks.proofs.kept.own_all.Goals as goal
use Rattle.stmt_checks.specs.Owning.{IsTaking}

pub add_all-requires-clause-known : goal.add_all-requires-clause-known
add_all-requires-clause-known c =
    let it = c.requires.taking in
    (c.in_ok-rest.ensures it.u it.before it.tokens_are it.changed_are it.taking).goes.known

pub returns : goal.returns
returns c = λ u before tokens_are changed_are taking. c.in_ok-rest-2.ensures u tokens_are (c.in_ok-rest.ensures u before tokens_are changed_are taking)
