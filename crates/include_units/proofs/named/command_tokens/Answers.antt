use Rattle.std.proofs.Common.{◌≤◌, length, sym, ap, subst, ◌∙◌}
use Rattle.include_units.specs.Own.{own_tokens}
use Rattle.include_units.proofs.CommandLemmas.{short_command}
use Rattle.include_units.proofs.named.command_tokens.Goals as goal

pub lexed_own-requires : goal.lexed_own-requires
lexed_own-requires c = subst (λ text. length text ≤ 4290772992) (sym (c.as_str.ensures.value ∙ c.in_ok-text.ensures)) (short_command c.args.defines.now c.requires)

pub returns : goal.returns
returns c = c.in_ok-tokens.ensures ∙ ap own_tokens (c.as_str.ensures.value ∙ c.in_ok-text.ensures)
