use Rattle.std.proofs.lemmas.List.{nil_from_length}
use Rattle.earlier_items.proofs.Differing.{all_left, all_named, noting_begins, noting_turns}
use Rattle.earlier_items.proofs.differences.note_all.Goals as goal

pub asked-init : goal.asked-init
asked-init c = noting_begins c.args.earlier.now.known c.args.before.now c.args.asked.now c.args.names.now c.args.changed.now c.requires

pub asked-preserved : goal.asked-preserved
asked-preserved c =
    noting_turns c.asked.invariant c.in-Some.ensures.cases.0 c.in_ok-note_one.ensures.noted c.in_ok-note_one.ensures.further c.in_ok-note_one.ensures.named
    c.in_ok-note_one.ensures.left

pub returns-clause-named : goal.returns-clause-named
returns-clause-named c = all_named c.asked.invariant (nil_from_length c.asked.rest.now c.in_default.ensures.cases)

pub returns-clause-left : goal.returns-clause-left
returns-clause-left c = all_left c.asked.invariant (nil_from_length c.asked.rest.now c.in_default.ensures.cases)
