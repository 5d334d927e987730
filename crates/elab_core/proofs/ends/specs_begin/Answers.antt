use Rattle.std.proofs.Common.{sym, ap, ◌∙◌}
use Rattle.elab_core.specs.Ends.{specifiers_begin}
use Rattle.elab_core.proofs.Layers.{specs_is}
use Rattle.elab_core.proofs.ends.specs_begin.Goals as goal

pub returns : goal.returns
returns c = c.specifiers_begin.ensures ∙ sym (ap specifiers_begin (specs_is c.args.specs.now))
