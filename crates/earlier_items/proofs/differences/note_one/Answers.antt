use Rattle.std.proofs.Common.{ap, ◌∙◌, if◌then◌else◌}
use Rattle.scope_tables.specs.Scopes.{or_outside}
use Rattle.elab_state.specs.Same.{same_wanted}
use Rattle.elab_state.specs.Wants.{Told}
use Rattle.elab_state.specs.declared.wants.Wanted.{Wanted}
use Rattle.earlier_items.specs.Before.{said}
use Rattle.earlier_items.proofs.Differing.{are_said, is_further, on_ok}
use Rattle.earlier_items.proofs.differences.note_one.Goals as goal

pub returns-clause-noted : goal.returns-clause-noted
returns-clause-noted c =
    let known = c.args.earlier.now.known in
    let names = c.args.names.now in
    let one = c.args.one.now in
    on_ok c.note_answer.result
    (λ h. are_said known names c.note_answer.new.names one
    (λ q. h q ∙ ap (λ o. if same_wanted one q then or_outside o (said names q) else said names q) c.get-now.ensures) c.requires)
    c.note_answer.ensures

pub returns-clause-further : goal.returns-clause-further
returns-clause-further c =
    let known = c.args.earlier.now.known in
    let names = c.args.names.now in
    let one = c.args.one.now in
    on_ok c.note_answer.result
    (λ h. is_further known names c.note_answer.new.names one
    (λ q. h q ∙ ap (λ o. if same_wanted one q then or_outside o (said names q) else said names q) c.get-now.ensures)
    c.args.changed.now c.compare.new.changed c.in_ok-compare.ensures.further)
    c.note_answer.ensures
