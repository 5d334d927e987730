use Rattle.std.proofs.Common.{rules, ◌≡◌, ◌++◌, [], ◌∷◌, ap, ◌∙◌}
use Rattle.unit_ends.specs.Ends.{of_item}
use Rattle.unit_ends.specs.Items.{Items}
use Rattle.unit_ends.proofs.WalkLemmas.{between_turns}
use Rattle.unit_ends.proofs.faults.end_faults.Goals as goal

pub loop-head-preserved : goal.loop-head-preserved
loop-head-preserved c =
    let items : Items = record { heads = c.args.heads.now; bodies = c.args.bodies.now } in
    let is : c.in_ok-index.index ≡ items = c.in_ok-index.ensures in
    let rest = c.loop-head.rest.now in
    let h = c.in-Some.head.now in
    let more = c.in-Some.behind.now in
    let here : rest ≡ h ∷ more = search rules in
    between_turns items rest more h c.loop-head.passed c.add_item.new.passed c.loop-head.faults.items c.add_item.new.faults.items _ here
    (λ front there. c.in_ok-add_item.ensures.faults front there ∙ ap (λ i. c.loop-head.faults.items ++ of_item i.heads i.bodies front h.item [] h.stated) is)
    (λ front there. c.in_ok-add_item.ensures.passed front there) c.loop-head.invariant
