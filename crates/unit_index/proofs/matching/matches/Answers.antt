use Rattle.std.proofs.Common.{rules, ◌≡◌, true, false, None, sym}
use Rattle.std.specs.List.{slice_get}
use Rattle.unit_index.proofs.MatchLemmas.{noting_tags, noting_types, walk_begins, walk_ends, walk_fails, walk_refuses, walk_turns}
use Rattle.unit_index.proofs.matching.matches.Goals as goal

pub returns-then-not-branch : goal.returns-then-not-branch
returns-then-not-branch c =
    let off : c.in_ok-note_types.field-0 ≡ false = search rules in
    walk_refuses c.args.left_tags.now c.args.right_tags.now c.args.left.now c.args.right.now c.new-pairs.result c.note_types.new.pairs
    (noting_types c.args.left.now c.args.right.now c.new-pairs.result c.note_types.new.pairs c.in_ok-note_types.field-0 false c.in_ok-note_types.ensures off)

pub pairs-init : goal.pairs-init
pairs-init c =
    let on : c.in_ok-note_types.field-0 ≡ true = search rules in
    walk_begins c.args.left_tags.now c.args.right_tags.now c.args.left.now c.args.right.now c.new-pairs.result c.note_types.new.pairs c.new-pairs.ensures
    (noting_types c.args.left.now c.args.right.now c.new-pairs.result c.note_types.new.pairs c.in_ok-note_types.field-0 true c.in_ok-note_types.ensures on)

pub returns-in_default : goal.returns-in_default
returns-in_default c =
    let none : slice_get c.pairs.pairs c.pairs.place ≡ None = search rules in
    walk_ends c.args.left_tags.now c.args.right_tags.now c.args.left.now c.args.right.now c.pairs.place c.pairs.pairs c.pairs.invariant none

pub returns-then-not-branch-2 : goal.returns-then-not-branch-2
returns-then-not-branch-2 c =
    let off : c.in_ok-note_infos.field-0 ≡ false = search rules in
    walk_fails c.args.left_tags.now c.args.right_tags.now c.args.left.now c.args.right.now c.pairs.place c.pairs.pairs c.note_infos.new.pairs c.in-Some.pair.now
    c.pairs.invariant (sym c.in-Some.ensures.pair) c.in-Some.ensures.small
    (noting_tags c.args.left_tags.now c.args.right_tags.now c.pairs.pairs c.note_infos.new.pairs c.in-Some.pair.now _ _ c.in_ok-note_infos.field-0 false
    c.get-left_info.ensures c.get-right_info.ensures c.in_ok-note_infos.ensures off)

pub pairs-preserved : goal.pairs-preserved
pairs-preserved c =
    let on : c.in_ok-note_infos.field-0 ≡ true = search rules in
    walk_turns c.args.left_tags.now c.args.right_tags.now c.args.left.now c.args.right.now c.pairs.place c.pairs.pairs c.note_infos.new.pairs c.in-Some.pair.now
    c.pairs.invariant (sym c.in-Some.ensures.pair)
    (noting_tags c.args.left_tags.now c.args.right_tags.now c.pairs.pairs c.note_infos.new.pairs c.in-Some.pair.now _ _ c.in_ok-note_infos.field-0 true
    c.get-left_info.ensures c.get-right_info.ensures c.in_ok-note_infos.ensures on)
