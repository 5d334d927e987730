use Rattle.std.proofs.Common.{◌≤◌, sym, subst, length}
use Rattle.include_units.specs.Units.{command_text}
use Rattle.include_units.proofs.CommandLemmas.{short_command}
use Rattle.include_units.proofs.Moving.{read_nothing}
use Rattle.include_units.proofs.unit.Unit.start.Goals as goal

pub invariant_of-result : goal.invariant_of-result
invariant_of-result c =
    (subst (λ conf. length (command_text conf.defines) ≤ 4290772992) (sym c.in_ok-conf.ensures) (short_command c.args.conf.now.defines c.requires), read_nothing _ _ _ c.nothing.ensures)
