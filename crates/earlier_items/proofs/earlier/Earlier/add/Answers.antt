use Rattle.std.proofs.Common.{sym, subst}
use Rattle.earlier_items.specs.Before.{AreBefore, Tells}
use Rattle.earlier_items.proofs.Added.{added}
use Rattle.earlier_items.proofs.earlier.Earlier.add.Goals as goal

pub returns : goal.returns
returns c =
    let old : Tells = record { known = c.self.inside.known; tags = c.self.inside.tags } in
    let new : Tells = record { known = c.note_head.new.known; tags = c.note_members.new.known } in
    λ front are. added c.args.head.now old new c.in_ok-note_head.ensures.said c.in_ok-note_members.ensures.said front (subst (λ t. AreBefore front t) (sym c.self.view_is) are)
