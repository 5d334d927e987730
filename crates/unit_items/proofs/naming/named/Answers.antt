use Rattle.std.proofs.Common.{rules, ◌≡◌, ◌-◌, ◌∷◌, ◌++◌, [], take, drop}
use Rattle.item_cut.specs.Labels.{label}
use Rattle.unit_items.proofs.Labelled.{names_next}
use Rattle.unit_items.proofs.naming.named.Goals as goal

-- src/naming.rt:77:5
pub turn-preserved : goal.turn-preserved
turn-preserved c =
    let p = c.in-Some.place.now in
    let left = c.turn.left.now in
    let is : c.turn.rest.now ≡ p ∷ c.in-Some.behind.now = search rules in
    let back : drop (p.1 - p.0) left ≡ c.in-Some-split_at_checked.back.now = search rules in
    let text : c.in_ok-text.text ≡ label (take (p.1 - p.0) left) = search rules in
    let made : c.turn.out.items ++ c.in_ok-next.next ∷ [] ≡ c.push.new.self.items = search rules in
    names_next c.turn.invariant is text back made c.in_ok-next.ensures.item c.in_ok-next.ensures.counted
