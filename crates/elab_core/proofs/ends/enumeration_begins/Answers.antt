use Rattle.std.proofs.Common.{sym, ap}
use Rattle.elab_core.specs.Ends.{specifying_begins}
use Rattle.elab_core.proofs.Layers.{enumeration_is}
use Rattle.elab_core.proofs.ends.enumeration_begins.Goals as goal

pub returns : goal.returns
returns c = sym (ap specifying_begins (enumeration_is c.args.list.now))
