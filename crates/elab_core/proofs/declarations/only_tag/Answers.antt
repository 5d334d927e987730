use Rattle.std.proofs.Common.{sym, ap, ◌∙◌}
use Rattle.elab_state.specs.Seen.{context_of}
use Rattle.elab_core.specs.Declarations.{only_tag}
use Rattle.elab_core.proofs.Layers.{specs_is}
use Rattle.elab_core.proofs.declarations.only_tag.Goals as goal

pub returns : goal.returns
returns c = c.only_of.ensures ∙ sym (ap (only_tag (context_of c.args.around.now)) (specs_is c.args.specs.now))
