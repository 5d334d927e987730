-- What no words say.
use Rattle.std.specs.Prelude.{[], None}
use Rattle.project_conf.specs.declared.options.Options.{Options}

abbrev pub no_options : Options
no_options = record { includes = []; defines = []; generate = None }
