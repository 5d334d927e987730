use Rattle.std.proofs.Common.{rules, arith, ◌≡◌, ap, subst, ◌∙◌, length, [], ◌∷◌, ◌++◌}
use Rattle.std.specs.Map.{values_of}
use Rattle.std.proofs.lemmas.List.{nil_from_length}
use Rattle.meaning_lists.specs.Order.{by_place}
use Rattle.meaning_lists.proofs.Placing.{IsPlaced, placed_all, placed_next}
use Rattle.meaning_lists.proofs.order.sorted.Goals as goal

pub items-preserved-in_ok-insert : goal.items-preserved-in_ok-insert
items-preserved-in_ok-insert g c =
    let more : c.items.item-iterator.rest.items ≡ c.in-Some.item ∷ c.next.new.self.rest.items = search rules in
    placed_next c.items.placed.entries c.insert.new.self.entries c.in-Some.item c.next.new.self.rest.items c.args.items.items c.len-number.result
    (subst (λ xs. IsPlaced c.items.placed.entries xs c.args.items.items) more c.items.invariant) c.len-number.ensures.len c.in_ok-insert.ensures.entries

pub items-preserved : goal.items-preserved
items-preserved g c =
    let more : c.items.item-iterator.rest.items ≡ c.in-Some.item ∷ c.next.new.self.rest.items = search rules in
    placed_next c.items.placed.entries c.insert.new.self.entries c.in-Some.item c.next.new.self.rest.items c.args.items.items c.len-number.result
    (subst (λ xs. IsPlaced c.items.placed.entries xs c.args.items.items) more c.items.invariant) c.len-number.ensures.len c.in_ok-insert.ensures.entries

pub out-init : goal.out-init
out-init g c =
    let none : length c.items.item-iterator.rest.items ≡ 0 = (let a = c.in-None.ensures.steps.0 in let b = c.items.item-iterator.rest.ok.0 in omega arith) in
    let done : c.items.item-iterator.rest.items ≡ [] = nil_from_length c.items.item-iterator.rest.items none in
    let whole : values_of c.items.placed.entries ≡ by_place c.args.items.items =
    placed_all c.items.placed.entries c.args.items.items (subst (λ xs. IsPlaced c.items.placed.entries xs c.args.items.items) done c.items.invariant) in
    let given : c.into_iter-item-iterator-2.result ≡ values_of c.items.placed.entries = search rules in
    ap (λ xs. xs ++ c.into_iter-item-iterator-2.result) c.new-out.ensures.items ∙ given ∙ whole
