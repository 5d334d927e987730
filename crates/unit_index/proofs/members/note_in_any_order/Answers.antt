use Rattle.std.proofs.Common.{rules, ◌≡◌, nat_eq, length, true}
use Rattle.unit_index.specs.Keyed.{at}
use Rattle.unit_index.proofs.MemberLemmas.{any_order}
use Rattle.unit_index.proofs.members.note_in_any_order.Goals as goal

pub returns : goal.returns
returns c =
    let many : nat_eq (length c.args.left.now) (length c.args.right.now) ≡ true = search rules in
    let named : c.in_ok-note_by_handles.field-0 ≡ true = search rules in
    any_order c.args.kind c.args.left_tags.now c.args.right_tags.now c.args.left.now c.args.right.now c.args.pairs.now _ _ (at c.in_ok-others.others) _ _
    many c.in_ok-others.ensures c.in_ok-note_by_handles.ensures named c.in_ok-fits.ensures
