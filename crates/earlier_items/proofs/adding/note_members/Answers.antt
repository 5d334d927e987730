use Rattle.std.proofs.Common.{rules, ◌≡◌}
use Rattle.earlier_items.proofs.Noted.{members_of_head}
use Rattle.earlier_items.proofs.adding.note_members.Goals as goal

pub returns : goal.returns
returns c =
    let bs : c.as_slice.result.now ≡ c.args.head.now.declared = search rules in
    let es : c.as_slice-2.result.now ≡ c.args.head.now.entities = search rules in
    record { said = λ q. members_of_head q c.args.head.now _ _ c.args.known.now c.bind_members.new.known c.note_tags.new.known bs es (c.in_ok-bind_members.ensures.said q) (c.in_ok-note_tags.ensures.said q) }
