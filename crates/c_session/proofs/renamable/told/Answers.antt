use Rattle.std.proofs.Common.{◌∙◌}
use Rattle.serde_json.specs.Written.{compact_text}
use Rattle.c_session.specs.Renamable.{shown}
use Rattle.c_session.proofs.renamable.told.Goals as goal

pub returns : goal.returns
returns c = c.in_ok-text.ensures ∙ (λ i. compact_text (shown ((c.as_str.ensures ∙ c.in_ok-name.ensures) i) (c.in_ok-start.ensures i)))
