use Rattle.elab_state.specs.Tokens.{bare_tokens}
use Rattle.stmt_checks.proofs.Noting.{further_again}
use Rattle.stmt_checks.proofs.kept.note_item.Goals as goal

pub returns-clause-further : goal.returns-clause-further
returns-clause-further c = further_again c.in_ok-note_names.ensures.further c.in_ok-note_names-2.ensures.further
