use Rattle.std.proofs.Common.{ap, ◌∙◌, ◌∷◌}
use Rattle.include_units.proofs.Stepping.{unit_begins}
use Rattle.include_units.proofs.stack.at_first.Goals as goal

pub returns : goal.returns
returns c =
    unit_begins c.args.conf.now c.as_slice.result.now c.in_ok-command.command c.in_ok-file.file c.in_ok-made.made c.push.new.self
    c.as_slice.ensures c.in_ok-command.ensures c.in_ok-file.ensures c.in_ok-made.ensures (c.in_ok-push.ensures ∙ ap (λ fs. c.in_ok-command.command ∷ fs) c.new-frames.ensures)
