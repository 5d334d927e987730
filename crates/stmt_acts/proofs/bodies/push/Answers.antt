use Rattle.std.proofs.Common.{[], ◌∷◌, ap, ◌∙◌}
use Rattle.std.proofs.lemmas.List.{map-append}
use Rattle.stmt_acts.specs.Shown.{act_of, acts_of}
use Rattle.stmt_acts.proofs.bodies.push.Goals as goal

pub returns : goal.returns
returns c = ap acts_of c.in_ok-push.ensures.items ∙ map-append act_of c.args.acts.now.items (c.args.act ∷ [])
