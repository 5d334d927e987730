use Rattle.std.proofs.Common.{List, sym, ap, subst, ◌∙◌}
use Rattle.macro_expand.specs.Ties.Codes.{Names, coded}
use Rattle.macro_expand.specs.Ties.Stands.{Stands, joined}
use Rattle.macro_expand.proofs.sets.Sets.made.Goals as goal

pub returns : goal.returns
returns c = λ f h.
    let inside = subst (λ (s : List Names). Stands f s) (sym c.self.view_is) h in
    let how = c.args.join.now.how in
    c.in_ok-made.ensures
    ∙ ap (λ (x : Names). joined how x c.in_ok-more.more.now) (sym (c.in_ok-names.ensures f inside))
    ∙ ap (joined how (f (coded c.args.join.now.left))) (sym (c.in_ok-more.ensures f inside))
