use Rattle.std.proofs.Common.{◌∙◌}
use Rattle.include_units.proofs.ParamLemmas.{param_named}
use Rattle.include_units.proofs.definitions.is_param_of.Goals as goal

pub returns : goal.returns
returns c = c.has.ensures ∙ param_named c.args.params.now c.args.names.now c.args.name.now c.requires
