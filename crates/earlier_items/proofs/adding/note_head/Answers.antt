use Rattle.std.proofs.Common.{rules, ◌≡◌}
use Rattle.earlier_items.proofs.Noted.{head_of}
use Rattle.earlier_items.proofs.adding.note_head.Goals as goal

pub returns-clause-said : goal.returns-clause-said
returns-clause-said c =
    let bs : c.as_slice.result.now ≡ c.args.head.now.declared = search rules in
    let es : c.as_slice-2.result.now ≡ c.args.head.now.entities = search rules in
    λ q. head_of q c.args.head.now _ _ c.args.known.now c.bind_all.new.known c.note_tags.new.known bs es (c.in_ok-bind_all.ensures.said q) (c.in_ok-note_tags.ensures.said q)
