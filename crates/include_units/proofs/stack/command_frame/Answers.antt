use Rattle.std.proofs.Common.{◌∙◌}
use Rattle.include_units.specs.Units.{command_text}
use Rattle.include_units.proofs.Stepping.{command_begins}
use Rattle.include_units.proofs.stack.command_frame.Goals as goal

pub returns : goal.returns
returns c = λ folders made.
    command_begins folders 200 c.in_ok-name.name c.in_ok-own.own (command_text c.args.defines.now) c.in_ok-tokens.tokens c.first_frame.result made
    c.in_ok-name.ensures (c.in_ok-own.ensures ∙ c.as_str.ensures.value ∙ c.in_ok-text.ensures) (c.in_ok-tokens.ensures ∙ c.tokens.ensures.tokens)
    (c.first_frame.ensures folders made)
