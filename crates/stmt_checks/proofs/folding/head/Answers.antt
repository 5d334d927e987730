use Rattle.elab_state.specs.Tokens.{bare_tokens}
use Rattle.item_readings.specs.TheReader.{the_reader}
use Rattle.stmt_checks.proofs.Folds.{meant, never_needed}
use Rattle.stmt_checks.proofs.folding.head.Goals as goal
use Rattle.stmt_checks.specs.Heads.{head_meaning}
use Rattle.stmt_checks.specs.Meanings.{context}

pub unreachable-requires : goal.unreachable-requires
unreachable-requires c =
    never_needed c.known.result.now c.args.earlier.now.known (head_meaning the_reader (context c.args.name.now (bare_tokens c.args.tokens.now) 0)) c.in_ok-elab.elab c.in-Need.field-0 c.known.ensures.whole
    (c.in_ok-elab.ensures the_reader c.readings_exist.ensures) c.in-Need.is

pub returns : goal.returns
returns c = λ r is hs same.
    meant c.known.result.now c.args.earlier.now (head_meaning r (context c.args.name.now (bare_tokens c.args.tokens.now) 0)) c.in_ok-elab.elab c.in-Done.meaning c.known.ensures.known c.known.ensures.whole
    (c.in_ok-elab.ensures r is) c.in-Done.is hs same
