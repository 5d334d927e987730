use Rattle.std.proofs.Common.{◌∙◌, sym, ap}
use Rattle.project_conf.specs.Database.{units_read, units_of}
use Rattle.project_conf.proofs.Usable.{usable}
use Rattle.project_conf.proofs.database.commands.Goals as goal

pub returns-clause-usable : goal.returns-clause-usable
unfolding units_of
returns-clause-usable c = usable c.args.root.now c.args.text.now c.units_in.result (λ h. c.units_in.ensures h ∙ ap (units_read c.args.root.now) (sym c.in_ok-value.ensures.read)) c.requires
