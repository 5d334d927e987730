use Rattle.std.proofs.Common.{sym, ap}
use Rattle.elab_core.specs.Ends.{braces_end}
use Rattle.elab_core.proofs.Layers.{braces_is}
use Rattle.elab_core.proofs.ends.braces_end.Goals as goal

pub returns : goal.returns
returns c = sym (ap braces_end (braces_is c.args.list.now))
