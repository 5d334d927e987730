use Rattle.std.proofs.Common.{◌≡◌, ap, ◌∙◌, false}
use Rattle.elab_state.specs.Asked.{all_noted, identifiers}
use Rattle.elab_state.specs.Tokens.{bare_tokens}
use Rattle.elab_state.specs.Wants.{answered}
use Rattle.elab_state.proofs.Askings.{noted_are}
use Rattle.elab_state.proofs.asked.unanswered.Goals as goal

pub returns : goal.returns
returns c =
    let look = answered c.args.known.now in
    let ids = identifiers false (bare_tokens c.args.tokens.now) in
    c.in_ok-list.ensures ∙ c.as_slice.ensures ∙ c.in_ok-note_all.ensures ∙ ap (λ s. all_noted look s ids) c.new-asked.ensures ∙ noted_are look ids
