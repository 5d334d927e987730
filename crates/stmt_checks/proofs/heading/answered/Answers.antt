use Rattle.std.proofs.Common.{sym, ap, ◌∙◌}
use Rattle.elab_state.specs.Answering.{with_answered}
use Rattle.elab_state.specs.Doings.{begun}
use Rattle.elab_state.specs.Seen.{context_of, told_of}
use Rattle.elab_state.specs.Wants.{answered}
use Rattle.scope_tables.specs.declared.entities.ScopeKind.TheVariants.{File}
use Rattle.stmt_checks.proofs.Headings.{from_tokens}
use Rattle.stmt_checks.proofs.heading.answered.Goals as goal
use Rattle.stmt_checks.specs.Meanings.{questions}

pub returns-in-Ok-read_and_judge : goal.returns-in-Ok-read_and_judge
returns-in-Ok-read_and_judge c =
    let look = answered (told_of c.args.around.now) in
    let names = answered c.args.names.now in
    let around = context_of c.args.around.now in
    from_tokens names look around c.note_answers.new.made c.in-Ok-read_and_judge.elab (sym c.is_empty.ensures ∙ c.if-is_empty.false)
    (c.in-Ok-note_answers.ensures ∙ ap (λ m. with_answered names (questions around) m) (c.in_ok-made.ensures ∙ ap (λ tags. begun File tags) c.new.ensures)) c.in-Ok-read_and_judge.ensures
