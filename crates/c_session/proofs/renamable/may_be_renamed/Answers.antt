use Rattle.std.proofs.Common.{ap, ◌∙◌}
use Rattle.rename_core.specs.Refusals.{can_be_renamed}
use Rattle.c_session.proofs.renamable.may_be_renamed.Goals as goal

pub returns : goal.returns
returns c = c.can_be_renamed-can.ensures ∙ ap can_be_renamed c.in_ok-class.ensures
