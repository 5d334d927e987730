use Rattle.std.proofs.Common.{◌≡◌, ap, ◌∙◌}
use Rattle.elab_core.specs.Braced.{filled, item, with_doubt}
use Rattle.elab_core.proofs.braced.express.Goals as goal

pub returns : goal.returns
returns c =
    c.in-Ok.ensures
    ∙ ap (λ p. filled c.args.at p c.doubt.new.filling c.args.made.now) c.item-piece.ensures
    ∙ ap (λ f. filled c.args.at (item c.args.text c.args.judged) f c.args.made.now) (c.doubt.ensures ∙ ap (λ b. with_doubt b c.args.filling.now) c.is_bad.ensures)
